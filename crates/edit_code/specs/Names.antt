-- What the data of an entry's code must be beside their form: names, and definitions whose lists are short enough.
use Rattle.std.specs.Prelude.{Bool, true}
use Rattle.db_config.specs.Made.{is_attribute, is_level}
use Rattle.edit_rules.specs.declared.acts.Act.{Act}
use Rattle.edit_rules.specs.declared.acts.Act.TheVariants as acts
use Rattle.edit_rules.specs.declared.acts.ConfigEdit.{ConfigEdit}
use Rattle.edit_rules.specs.declared.acts.ConfigEdit.TheVariants as edits
use Rattle.edit_rules.specs.declared.acts.Entry.{Entry}
use Rattle.value_codes.specs.Names.{is_key}
use Rattle.edit_code.specs.Edits.{first_key}

-- a level or an attribute that is added is one; the names that tell levels may be any texts
abbrev pub is_addition : ConfigEdit → Bool
is_addition (edits.AddLevel level) = is_level level
is_addition (edits.AddAttribute level attribute) = is_attribute attribute
is_addition (edits.AddLinkDefinition kind upper lower) = true

-- the key of edits is one; what is added to the configuration is such
abbrev pub is_act : Act → Bool
is_act (acts.Edits es) = is_key (first_key es)
is_act (acts.Config edit) = is_addition edit

-- the entry's act is such
abbrev pub is_entry : Entry → Bool
is_entry e = is_act e.act
