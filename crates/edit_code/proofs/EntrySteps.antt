-- Steps of the sizes and the readings of acts and entries.
use Rattle.std.proofs.Common.{◌≡◌, ℕ, suc, ◌<◌, ◌≤◌, ◌∙◌, Bool, true, false, List, [], ◌∷◌, length, refl, sym, ap, subst, arith, Some}
use Rattle.std.specs.Prelude.{◌==◌, Option, None, Result, Ok, Err}
use Rattle.std.specs.List.{slice_get}
use Rattle.std.proofs.lemmas.Bool.Decides.{nat_tests}
use Rattle.emu_names.specs.declared.kinds.SessionNo.{SessionNo}
use Rattle.emu_names.specs.declared.names.BundleKey.{BundleKey}
use Rattle.bundle_edits.specs.declared.edit.Edit.{Edit}
use Rattle.edit_rules.specs.declared.acts.Act.{Act}
use Rattle.edit_rules.specs.declared.acts.Act.TheVariants as acts
use Rattle.edit_rules.specs.declared.acts.Entry.{Entry}
use Rattle.edit_rules.specs.Inner.Acts.{AreTogether}
use Rattle.byte_forms.specs.declared.rest.ReadFault.{ReadFault}
use Rattle.byte_forms.specs.declared.rest.ReadFault.TheVariants as faults
use Rattle.byte_forms.specs.Forms.{Form, ◌>>=◌}
use Rattle.byte_forms.specs.Parts.{imaged, led, pair, shaped, u32_form, led_on, read_as}
use Rattle.byte_forms.proofs.Steps.{bind_ok, bind_err}
use Rattle.value_codes.specs.Annots.{session_form}
use Rattle.edit_code.specs.declared.kinds.Body.{Body}
use Rattle.edit_code.specs.declared.kinds.Body.TheVariants as bodies
use Rattle.edit_code.specs.Edits.{act_form, body_form, body_of, edit_form, several_form}
use Rattle.edit_code.specs.Inner.Reading.{GivesIf}
use Rattle.edit_code.specs.Names.{is_act, is_entry}
use Rattle.edit_code.proofs.ListSteps.{some_edits, only_got}

-- Which body a list of edits has.

pub body_one : (es : List Edit) → length es ≡ 1 → body_of (acts.Edits es) ≡ bodies.One
body_one [] one = absurd (omega (arith, one))
body_one (e ∷ []) one = refl
body_one (e ∷ next ∷ es) one = absurd (omega (arith, one))

pub two_edits : (es : List Edit) → AreTogether es → (length es ≡ 1 → ⊥) → 2 ≤ length es
two_edits [] h more = absurd (omega (arith, some_edits [] h))
two_edits (e ∷ []) h more = absurd (more refl)
two_edits (e ∷ next ∷ es) h more = omega arith

pub body_several : (es : List Edit) → 2 ≤ length es → body_of (acts.Edits es) ≡ bodies.Several
body_several [] some = absurd (omega (arith, some))
body_several (e ∷ []) some = absurd (omega (arith, some))
body_several (e ∷ next ∷ es) some = refl

-- The parts of a reading that tests the value.

pub led_if : {X A : Type 0} (head : Form X) (of : A → X) (at : X → Form A) (test : A → Bool) (r : Result (Option A) ReadFault)
    (old mid new : List ℕ) (x : X) → head.read old ≡ Ok (x, mid) → GivesIf test r new ((at x).read mid)
    → GivesIf test r new ((led head of at).read old)
unfolding led
led_if head of at test r old mid new x read is =
    subst (GivesIf test r new) (sym (bind_ok (head.read old) (x, mid) (led_on at) read)) is

pub image_some : {A B : Type 0} (f : Form A) (of : A → B) (back : B → Option A) (old new : List ℕ) (a : A)
    → f.read old ≡ Ok (a, new) → (imaged f of back).read old ≡ Ok (of a, new)
unfolding imaged
image_some f of back old new a read = bind_ok (f.read old) (a, new) (read_as of) read

pub image_err : {A B : Type 0} (f : Form A) (of : A → B) (back : B → Option A) (first : A → Bool) (second : B → Bool) (old new : List ℕ)
    (fault : ReadFault) → GivesIf first (Err fault) new (f.read old) → GivesIf second (Err fault) new ((imaged f of back).read old)
unfolding imaged
image_err f of back first second old new (faults.Left n) read = bind_err (f.read old) n (read_as of) read
image_err f of back first second old new faults.Memory read = tt

-- an entry of its parts
abbrev pub entry_with : SessionNo → ℕ → Act → Entry
entry_with session line act = record { session = session; line = line; act = act }

pub body_read : (b : Body) (old mid behind new : List ℕ) (session : SessionNo) (line : ℕ) (act : Act)
    → session_form.read old ≡ Ok (session, mid) → u32_form.read mid ≡ Ok (line, behind) → (act_form b).read behind ≡ Ok (act, new)
    → (body_form b).read old ≡ Ok (entry_with session line act, new)
unfolding body_form shaped pair
body_read b old mid behind new session line act first second third = rw (first, second, third) refl

body_stops : (b : Body) (old mid behind : List ℕ) (session : SessionNo) (line left : ℕ)
    → session_form.read old ≡ Ok (session, mid) → u32_form.read mid ≡ Ok (line, behind) → (act_form b).read behind ≡ Err left
    → (body_form b).read old ≡ Err left
unfolding body_form shaped pair
body_stops b old mid behind session line left first second third = rw (first, second, third) refl

pub body_fails : (b : Body) (old mid behind new : List ℕ) (session : SessionNo) (line : ℕ) (fault : ReadFault)
    → session_form.read old ≡ Ok (session, mid) → u32_form.read mid ≡ Ok (line, behind)
    → GivesIf {A = Act} is_act (Err fault) new ((act_form b).read behind)
    → GivesIf {A = Entry} is_entry (Err fault) new ((body_form b).read old)
body_fails b old mid behind new session line (faults.Left n) first second third =
    body_stops b old mid behind session line n first second third
body_fails b old mid behind new session line faults.Memory first second third = tt

-- The bytes of a list of edits behind the first byte of its entry.

pub one_code : (es : List Edit) (e : Edit) → length es ≡ 1 → slice_get es 0 ≡ Some e
    → (act_form (body_of (acts.Edits es))).code (acts.Edits es) ≡ edit_form.code e
unfolding imaged
one_code [] e one at = absurd (omega (arith, one))
one_code (x ∷ []) e one at = let same : x ≡ e = cc in ap edit_form.code same
one_code (x ∷ next ∷ es) e one at = absurd (omega (arith, one))

pub one_fits : (es : List Edit) (e : Edit) → length es ≡ 1 → slice_get es 0 ≡ Some e → edit_form.fits e
    → (act_form (body_of (acts.Edits es))).fits (acts.Edits es)
unfolding imaged
one_fits [] e one at fits = absurd (omega (arith, one))
one_fits (x ∷ []) e one at fits = let same : x ≡ e = cc in (refl, subst edit_form.fits (sym same) fits)
one_fits (x ∷ next ∷ es) e one at fits = absurd (omega (arith, one))

pub several_code : (es : List Edit) → 2 ≤ length es → (act_form (body_of (acts.Edits es))).code (acts.Edits es) ≡ several_form.code es
unfolding imaged
several_code [] some = absurd (omega (arith, some))
several_code (e ∷ []) some = absurd (omega (arith, some))
several_code (e ∷ next ∷ es) some = refl

pub several_fits : (es : List Edit) → 2 ≤ length es → several_form.fits es → (act_form (body_of (acts.Edits es))).fits (acts.Edits es)
unfolding imaged
several_fits [] some fits = absurd (omega (arith, some))
several_fits (e ∷ []) some fits = absurd (omega (arith, some))
several_fits (e ∷ next ∷ es) some fits = (refl, fits)
