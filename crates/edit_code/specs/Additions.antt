-- The forms of additions to the configuration: the number of their kind, and then what is added, as in a head.
use Rattle.std.specs.Prelude.{ℕ, List, Option, Some, None}
use Rattle.emu_names.specs.declared.kinds.LinkKind.{LinkKind}
use Rattle.db_config.specs.declared.attributes.AttributeDef.{AttributeDef}
use Rattle.db_config.specs.declared.parts.LevelDef.{LevelDef}
use Rattle.edit_rules.specs.declared.acts.ConfigEdit.{ConfigEdit}
use Rattle.edit_rules.specs.declared.acts.ConfigEdit.TheVariants as edits
use Rattle.edit_code.specs.declared.kinds.Addition.{Addition}
use Rattle.edit_code.specs.declared.kinds.Addition.TheVariants as additions
use Rattle.byte_forms.specs.Forms.{Form}
use Rattle.byte_forms.specs.Parts.{pair, imaged, led}
use Rattle.byte_forms.specs.Utf8.{text_form}
use Rattle.value_codes.specs.Heads.{attribute_form, level_def_form, link_kind_form}
use Rattle.edit_code.specs.Tags.{tag_form}
use Rattle.edit_code.specs.Kinds.{all_additions, addition_number}

-- what is added
abbrev pub addition_of : ConfigEdit → Addition
addition_of (edits.AddLevel level) = additions.Level
addition_of (edits.AddAttribute level attribute) = additions.Attribute
addition_of (edits.AddLinkDefinition kind upper lower) = additions.Link

abbrev pub level_of : ConfigEdit → Option LevelDef
level_of (edits.AddLevel level) = Some level
level_of _ = None

abbrev pub attribute_of : ConfigEdit → Option (List ℕ × AttributeDef)
attribute_of (edits.AddAttribute level attribute) = Some (level, attribute)
attribute_of _ = None

abbrev pub link_of : ConfigEdit → Option (LinkKind × (List ℕ × List ℕ))
link_of (edits.AddLinkDefinition kind upper lower) = Some (kind, (upper, lower))
link_of _ = None

-- an addition behind its number: a level; the name of a level and an attribute; the type of a link definition and the
-- names of its levels, the upper one first
abbrev pub addition_at : Addition → Form ConfigEdit
addition_at additions.Level = imaged level_def_form edits.AddLevel level_of
addition_at additions.Attribute = imaged (pair text_form attribute_form) (λ p. edits.AddAttribute p.0 p.1) attribute_of
addition_at additions.Link =
    imaged (pair link_kind_form (pair text_form text_form)) (λ p. edits.AddLinkDefinition p.0 p.1.0 p.1.1) link_of

-- an addition to the configuration
unfoldable pub addition_form : Form ConfigEdit
addition_form = led (tag_form all_additions addition_number) addition_of addition_at
