-- What one line of a script may do: a list of edits of one bundle, or an edit of the configuration.
use Rattle.std.specs.Prelude.{Bool, Result}
use Rattle.emu_names.specs.declared.names.BundleKey.{BundleKey}
use Rattle.emu_names.specs.declared.rules.Broken.{Broken}
use Rattle.db_config.specs.declared.parts.ConfigParts.{ConfigParts}
use Rattle.config_additions.specs.Added.{level_added, attribute_added, definition_added}
use Rattle.bundle_edits.specs.declared.edit.Edit.{Edit}
use Rattle.bundle_edits.specs.Edits.{key_of}
use Rattle.edit_rules.specs.declared.acts.ConfigEdit.{ConfigEdit}
use Rattle.edit_rules.specs.declared.acts.ConfigEdit.TheVariants as additions
use Rattle.edit_rules.specs.Database.{same_key}

-- an edit of the bundle of a key
abbrev pub has_key : BundleKey → Edit → Bool
has_key key edit = same_key (key_of edit) key

-- what an edit of the configuration makes of it, or the rule that it breaks first
abbrev pub config_changed : ConfigEdit → ConfigParts → Result ConfigParts Broken
config_changed (additions.AddLevel level) config = level_added level config
config_changed (additions.AddAttribute level attribute) config = attribute_added level attribute config
config_changed (additions.AddLinkDefinition kind upper lower) config = definition_added kind upper lower config
