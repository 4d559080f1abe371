-- The forms of edits, of lists of edits, and of entries. An edit alone is its number, its key and the fields behind the
-- key in their order. Two or more edits of a bundle are their key once, how many they are, and for each its number and
-- its fields.
use Rattle.std.specs.Prelude.{ℕ, List, [], ◌∷◌, length, Option, Some, None}
use Rattle.emu_names.specs.declared.names.BundleKey.{BundleKey}
use Rattle.bundle_edits.specs.declared.edit.Edit.{Edit}
use Rattle.bundle_edits.specs.Edits.{key_of}
use Rattle.edit_rules.specs.declared.acts.Act.{Act}
use Rattle.edit_rules.specs.declared.acts.Act.TheVariants as acts
use Rattle.edit_rules.specs.declared.acts.ConfigEdit.{ConfigEdit}
use Rattle.edit_rules.specs.declared.acts.Entry.{Entry}
use Rattle.edit_code.specs.declared.fields.Fields.{Fields}
use Rattle.edit_code.specs.declared.kinds.Body.{Body}
use Rattle.edit_code.specs.declared.kinds.Body.TheVariants as bodies
use Rattle.edit_code.specs.declared.kinds.Kind.{Kind}
use Rattle.byte_forms.specs.Forms.{Form}
use Rattle.byte_forms.specs.Parts.{pair, shaped, imaged, led, u32_form}
use Rattle.byte_forms.specs.Lists.{times}
use Rattle.value_codes.specs.Annots.{key_form, session_form}
use Rattle.edit_code.specs.Additions.{addition_form}
use Rattle.value_codes.specs.Counts.{count_form}
use Rattle.edit_code.specs.Fields.{fields_of, edit_of, kind_of, fields_form}
use Rattle.edit_code.specs.Kinds.{all_bodies, body_number, all_kinds, inner_kinds, kind_number}
use Rattle.edit_code.specs.Tags.{tag_form}

-- One edit.

-- an edit behind its number: its key, and its fields
unfoldable pub keyed_form : Kind → Form Edit
keyed_form k = shaped (pair key_form (fields_form k)) (λ p. edit_of p.0 p.1) (λ e. (key_of e, fields_of e))

-- an edit: its number, its key, its fields
unfoldable pub edit_form : Form Edit
edit_form = led (tag_form all_kinds kind_number) (λ e. kind_of (fields_of e)) keyed_form

-- Lists of edits.

-- the fields of an edit that may stand beside others, behind its number
unfoldable pub told_form : Form Fields
told_form = led (tag_form inner_kinds kind_number) kind_of fields_form

-- an edit of the bundle of a key that may stand beside others: its number, its fields
unfoldable pub inner_form : BundleKey → Form Edit
inner_form key = imaged told_form (edit_of key) (λ e. Some (fields_of e))

-- the key of the first edit; a list without edits is not asked for
abbrev pub first_key : List Edit → BundleKey
first_key [] = record { session = []; bundle = [] }
first_key (e ∷ es) = key_of e

-- two or more edits of a bundle: its key, how many they are, and the edits
unfoldable pub several_form : Form (List Edit)
several_form = led key_form first_key (λ key. led count_form length (times (inner_form key)))

-- Acts and entries.

-- what body an act has; a list without edits is not asked for
abbrev pub body_of : Act → Body
body_of (acts.Edits []) = bodies.One
body_of (acts.Edits (e ∷ [])) = bodies.One
body_of (acts.Edits (e ∷ next ∷ es)) = bodies.Several
body_of (acts.Config edit) = bodies.Config

-- the edit that is an act
abbrev pub one_of : Act → Option Edit
one_of (acts.Edits (e ∷ [])) = Some e
one_of _ = None

-- the edits that are an act
abbrev pub edits_of : Act → Option (List Edit)
edits_of (acts.Edits es) = Some es
edits_of (acts.Config edit) = None

-- the addition to the configuration that is an act
abbrev pub config_of : Act → Option ConfigEdit
config_of (acts.Edits es) = None
config_of (acts.Config edit) = Some edit

-- an act behind what tells its body
abbrev pub act_form : Body → Form Act
act_form bodies.One = imaged edit_form (λ e. acts.Edits (e ∷ [])) one_of
act_form bodies.Several = imaged several_form acts.Edits edits_of
act_form bodies.Config = imaged addition_form acts.Config config_of

-- an entry behind its first byte: its session, its line, its act
unfoldable pub body_form : Body → Form Entry
body_form b = shaped (pair session_form (pair u32_form (act_form b)))
    (λ p. record { session = p.0; line = p.1.0; act = p.1.1 }) (λ e. (e.session, (e.line, e.act)))

-- an entry: 1, 2 or 3 for one edit, several edits or an addition to the configuration, and what is behind it
unfoldable pub entry_form : Form Entry
entry_form = led (tag_form all_bodies body_number) (λ e. body_of e.act) body_form
