-- The laws of the forms of edits, lists of edits and entries.
use Rattle.std.proofs.Common.{◌≡◌, ℕ, suc, ◌+◌, ◌<◌, ◌≤◌, ◌∙◌, Bool, true, false, List, [], ◌∷◌, length, refl, sym, ap, subst, arith}
use Rattle.std.specs.Prelude.{Option, Some, None}
use Rattle.emu_names.specs.declared.names.BundleKey.{BundleKey}
use Rattle.bundle_edits.specs.declared.edit.Edit.{Edit}
use Rattle.bundle_edits.specs.Edits.{key_of}
use Rattle.edit_rules.specs.declared.acts.Act.{Act}
use Rattle.edit_rules.specs.declared.acts.Act.TheVariants as acts
use Rattle.edit_rules.specs.declared.acts.Entry.{Entry}
use Rattle.byte_forms.specs.Forms.{Form, IsForm}
use Rattle.byte_forms.specs.Parts.{pair, shaped, imaged, led, u32_form, FitsAs}
use Rattle.byte_forms.specs.Lists.{ItemsFit, times}
use Rattle.byte_forms.proofs.Laws.{imaged_law, shaped_law, pair_law, led_law}
use Rattle.byte_forms.proofs.Lists.{times_law}
use Rattle.byte_forms.proofs.Numbers.{u32_law}
use Rattle.value_codes.specs.Annots.{key_form, session_form}
use Rattle.value_codes.proofs.AnnotLaws.{key_law, session_law}
use Rattle.edit_code.specs.declared.fields.Fields.{Fields}
use Rattle.edit_code.specs.declared.kinds.Body.{Body}
use Rattle.edit_code.specs.declared.kinds.Body.TheVariants as bodies
use Rattle.edit_code.specs.declared.kinds.Kind.{Kind}
use Rattle.edit_code.specs.declared.kinds.Kind.TheVariants as kinds
use Rattle.edit_code.specs.Additions.{addition_form}
use Rattle.value_codes.specs.Counts.{count_form}
use Rattle.edit_code.specs.Edits.{keyed_form, edit_form, told_form, inner_form, first_key, several_form, body_of, one_of, edits_of, config_of, act_form, body_form, entry_form}
use Rattle.edit_code.specs.Fields.{fields_of, edit_of, kind_of, fields_form}
use Rattle.edit_code.specs.Kinds.{all_bodies, body_number, all_kinds, inner_kinds, kind_number}
use Rattle.edit_code.specs.Tags.{tag_form}
use Rattle.edit_code.proofs.AdditionLaws.{addition_law}
use Rattle.value_codes.proofs.CountLaws.{count_law}
use Rattle.edit_code.proofs.FieldLaws.{fields_law, fields_are, edit_there, parts_of, parts_here, key_is, fields_stay}
use Rattle.edit_code.proofs.KindLaws.{body_is_byte, body_there, kind_is_byte, kind_there}
use Rattle.edit_code.proofs.TagLaws.{tag_law}

-- One edit.

keyed_law : (k : Kind) → IsForm (keyed_form k)
unfolding keyed_form
keyed_law k =
    shaped_law (pair key_form (fields_form k)) (λ p. edit_of p.0 p.1) parts_of edit_there
    (λ p. parts_here p.0 p.1) (pair_law key_form (fields_form k) key_law (fields_law k))

pub edit_law : IsForm edit_form
unfolding edit_form keyed_form shaped pair
edit_law =
    led_law (tag_form all_kinds kind_number) (λ e. kind_of (fields_of e)) keyed_form
    (tag_law all_kinds kind_number (kinds.AddBundle, (kind_is_byte kinds.AddBundle, kind_there kinds.AddBundle)))
    (λ k m. keyed_law k) (λ k v m l. fields_are k (fields_of v) l.1)

-- Lists of edits.

pub told_law : IsForm told_form
unfolding told_form
told_law =
    led_law (tag_form inner_kinds kind_number) kind_of fields_form
    (tag_law inner_kinds kind_number (kinds.AddItem, (kind_is_byte kinds.AddItem, refl))) (λ k m. fields_law k)
    (λ k v m l. fields_are k v l)

pub inner_law : (key : BundleKey) → IsForm (inner_form key)
unfolding inner_form
inner_law key = imaged_law told_form (edit_of key) (λ e. Some (fields_of e)) told_law (λ a m. ap (λ f. Some f) (fields_stay key a))

-- edits of a key have it first
first_is : (key : BundleKey) (es : List Edit) → 1 ≤ length es → ItemsFit (inner_form key) es → first_key es ≡ key
unfolding inner_form imaged
first_is key [] some m = absurd (omega (arith, some))
first_is key (e ∷ es) some m = ap key_of m.0.0 ∙ key_is key (fields_of e)

pub several_law : IsForm several_form
unfolding several_form led count_form times
several_law =
    led_law key_form first_key (λ key. led count_form length (times (inner_form key))) key_law
    (λ key m. led_law count_form length (times (inner_form key)) count_law (λ n l. times_law (inner_form key) (inner_law key) n) (λ n v l j. j.0))
    (λ key v m l. first_is key v (omega (arith, l.0.0)) l.1.1)

-- Acts and entries.

one_law : (a : Edit) → one_of (acts.Edits (a ∷ [])) ≡ Some a
one_law a = refl

act_law : (b : Body) → IsForm (act_form b)
act_law bodies.One = imaged_law edit_form (λ e. acts.Edits (e ∷ [])) one_of edit_law (λ a m. refl)
act_law bodies.Several = imaged_law several_form acts.Edits edits_of several_law (λ a m. refl)
act_law bodies.Config = imaged_law addition_form acts.Config config_of addition_law (λ a m. refl)

-- two or more edits are several
several_is : (es : List Edit) → 2 ≤ length es → body_of (acts.Edits es) ≡ bodies.Several
several_is [] some = absurd (omega (arith, some))
several_is (e ∷ []) some = absurd (omega (arith, some))
several_is (e ∷ next ∷ es) some = refl

act_is_one : (act : Act) (o : Option Edit) → FitsAs edit_form (λ e. acts.Edits (e ∷ [])) act o → body_of act ≡ bodies.One
act_is_one act None m = absurd m
act_is_one act (Some e) m = ap body_of m.0

act_is_several : (act : Act) (o : Option (List Edit)) → FitsAs several_form acts.Edits act o → body_of act ≡ bodies.Several
unfolding several_form led count_form
act_is_several act None m = absurd m
act_is_several act (Some es) m = ap body_of m.0 ∙ several_is es m.1.1.0.0

pub act_is : (b : Body) (act : Act) → (act_form b).fits act → body_of act ≡ b
unfolding imaged
act_is bodies.One act m = act_is_one act (one_of act) m
act_is bodies.Several act m = act_is_several act (edits_of act) m
act_is bodies.Config (acts.Edits es) m = absurd m
act_is bodies.Config (acts.Config edit) m = refl

body_law : (b : Body) → IsForm (body_form b)
unfolding body_form
body_law b =
    shaped_law (pair session_form (pair u32_form (act_form b))) _ _ (λ v. refl) (λ a. refl)
    (pair_law session_form (pair u32_form (act_form b)) session_law (pair_law u32_form (act_form b) u32_law (act_law b)))

pub entry_law : IsForm entry_form
unfolding entry_form body_form shaped pair
entry_law =
    led_law (tag_form all_bodies body_number) (λ e. body_of e.act) body_form
    (tag_law all_bodies body_number (bodies.One, (body_is_byte bodies.One, body_there bodies.One)))
    (λ b m. body_law b) (λ b v m l. act_is b v.act l.1.1)
