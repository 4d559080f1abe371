-- Exits by a fault of an earlier reading.
use Rattle.std.proofs.Common.{◌≡◌, ℕ, zero, suc, ◌-◌, ◌<◌, ◌≤◌, Bool, List, refl, sym, subst, arith}
use Rattle.std.specs.Prelude.{Option, Some, Result, Ok, Err, IsErrAnd}
use Rattle.emu_names.specs.declared.kinds.SessionNo.{SessionNo}
use Rattle.emu_names.specs.declared.names.BundleKey.{BundleKey}
use Rattle.bundle_edits.specs.declared.edit.Edit.{Edit}
use Rattle.byte_forms.specs.Forms.{Form, ◌>>=◌}
use Rattle.byte_forms.specs.Parts.{imaged, led, led_on, pair, shaped, u32_form}
use Rattle.byte_forms.specs.declared.rest.ReadFault.{ReadFault}
use Rattle.byte_forms.specs.declared.rest.ReadFault.TheVariants as faults
use Rattle.byte_forms.specs.Inner.Reading.{Gives}
use Rattle.byte_forms.specs.Lists.{times}
use Rattle.byte_forms.specs.Utf8.{text_form}
use Rattle.value_codes.specs.Annots.{key_form, session_form}
use Rattle.value_codes.specs.Heads.{attribute_form, level_def_form}
use Rattle.value_codes.specs.Inner.Names.{if_so}
use Rattle.value_codes.specs.Names.{is_key}
use Rattle.value_codes.specs.Counts.{count_form}
use Rattle.edit_code.specs.declared.fields.Fields.{Fields}
use Rattle.edit_code.specs.declared.kinds.Addition.TheVariants as additions
use Rattle.edit_code.specs.declared.kinds.Body.{Body}
use Rattle.edit_code.specs.declared.kinds.Body.TheVariants as bodies
use Rattle.edit_code.specs.declared.kinds.Kind.{Kind}
use Rattle.edit_code.specs.Additions.{addition_at}
use Rattle.edit_code.specs.Edits.{act_form, body_form, edit_form, inner_form, keyed_form, several_form, told_form}
use Rattle.edit_code.specs.Fields.{fields_form}
use Rattle.edit_code.specs.Kinds.{all_kinds, kind_number}
use Rattle.edit_code.specs.Tags.{tag_form}
use Rattle.edit_code.specs.Inner.Reading.{GivesIf, Skips}
use Rattle.edit_code.proofs.ListSteps.{Passes, passes_fail, several_read}
use Rattle.edit_code.proofs.Tested.{so_by}

-- what stops an earlier reading stops the whole
fault_if : {A B : Type 0} (test : B → Bool) (fault : ReadFault) (left new : List ℕ) (step : Result (A × List ℕ) ℕ)
    (whole : Result (B × List ℕ) ℕ) → Gives {A = A} (Err fault) left step → ((n : ℕ) → step ≡ Err n → whole ≡ Err n)
    → GivesIf test (Err fault) new whole
fault_if test (faults.Left n) left new step whole gives on = on n gives
fault_if test faults.Memory left new step whole gives on = tt

pub exit_if : {A B : Type 0} (test : B → Bool) (answer : Result (Option B) ReadFault) (fault : ReadFault) (left new : List ℕ)
    (step : Result (A × List ℕ) ℕ) (whole : Result (B × List ℕ) ℕ) → IsErrAnd answer (λ x. x ≡ fault)
    → Gives {A = A} (Err fault) left step → ((n : ℕ) → step ≡ Err n → whole ≡ Err n) → GivesIf test answer new whole
exit_if test (Ok made) fault left new step whole same gives on = absurd same
exit_if {A = A} {B = B} test (Err e) fault left new step whole same gives on =
    subst (λ (f : ReadFault). GivesIf {A = B} test (Err f) new whole) (sym same) (fault_if {A = A} test fault left new step whole gives on)

-- the same of several edits
pub key_stops : (old : List ℕ) (n : ℕ) → key_form.read old ≡ Err n → several_form.read old ≡ Err n
unfolding several_form led
key_stops old n e = rw e refl

pub count_stops : (old mid : List ℕ) (key : BundleKey) (n : ℕ) → key_form.read old ≡ Ok (key, mid) → count_form.read mid ≡ Err n
    → several_form.read old ≡ Err n
unfolding several_form led
count_stops old mid key n first e = rw (first, e) refl

pub edits_stop : (old mid behind : List ℕ) (key : BundleKey) (count n : ℕ) → key_form.read old ≡ Ok (key, mid)
    → count_form.read mid ≡ Ok (count, behind) → (times (inner_form key) count).read behind ≡ Err n → several_form.read old ≡ Err n
edits_stop old mid behind key count n first second e = several_read old mid behind key count (Err n) first second e

-- the same of an entry behind its first byte
pub session_stops : (b : Body) (old : List ℕ) (n : ℕ) → session_form.read old ≡ Err n → (body_form b).read old ≡ Err n
unfolding body_form shaped pair
session_stops b old n e = rw e refl

pub line_stops : (b : Body) (old mid : List ℕ) (session : SessionNo) (n : ℕ) → session_form.read old ≡ Ok (session, mid)
    → u32_form.read mid ≡ Err n → (body_form b).read old ≡ Err n
unfolding body_form shaped pair
line_stops b old mid session n first e = rw (first, e) refl

-- the same of edits that are passed over, of what is added, and of one edit
pub skip_exit : (answer : Result (Unit {0}) ReadFault) (fault : ReadFault) (count place : ℕ) (bytes from new : List ℕ)
    → IsErrAnd answer (λ x. x ≡ fault) → Passes count (count - place) from bytes → place < count
    → Gives {A = Fields} (Err fault) new (told_form.read from)
    → (key : BundleKey) → Skips {A = List Edit} {U = Unit {0}} answer new ((times (inner_form key) count).read bytes)
skip_exit (Ok done) fault count place bytes from new same whole h gives key = absurd same
skip_exit (Err e) fault count place bytes from new same whole h gives key =
    subst (λ (f : ReadFault). Skips {A = List Edit} {U = Unit {0}} (Err f) new ((times (inner_form key) count).read bytes)) (sym same)
    (passes_fail count place bytes from new fault whole h gives key)

pub level_stops : (old : List ℕ) (n : ℕ) → level_def_form.read old ≡ Err n → (addition_at additions.Level).read old ≡ Err n
unfolding imaged
level_stops old n e = rw e refl

pub name_stops : (old : List ℕ) (n : ℕ) → text_form.read old ≡ Err n → (addition_at additions.Attribute).read old ≡ Err n
unfolding imaged pair
name_stops old n e = rw e refl

pub attribute_stops : (old mid level : List ℕ) (n : ℕ) → text_form.read old ≡ Ok (level, mid) → attribute_form.read mid ≡ Err n
    → (addition_at additions.Attribute).read old ≡ Err n
unfolding imaged pair
attribute_stops old mid level n first e = rw (first, e) refl

pub kind_stops : (old : List ℕ) (n : ℕ) → (tag_form all_kinds kind_number).read old ≡ Err n → (act_form bodies.One).read old ≡ Err n
unfolding imaged edit_form led
kind_stops old n e = rw e refl

pub one_key_stops : (old mid : List ℕ) (k : Kind) (n : ℕ) → (tag_form all_kinds kind_number).read old ≡ Ok (k, mid)
    → key_form.read mid ≡ Err n → (act_form bodies.One).read old ≡ Err n
unfolding imaged edit_form keyed_form led shaped pair
one_key_stops old mid k n first e = rw (first, e) refl

pub fields_stop : (old mid behind : List ℕ) (k : Kind) (key : BundleKey) (n : ℕ) → (tag_form all_kinds kind_number).read old ≡ Ok (k, mid)
    → key_form.read mid ≡ Ok (key, behind) → (fields_form k).read behind ≡ Err n → (act_form bodies.One).read old ≡ Err n
unfolding imaged edit_form keyed_form led shaped pair
fields_stop old mid behind k key n first second e = rw (first, second, e) refl

-- the same of the first edit of a list
first_by : (key : BundleKey) (count : ℕ) (bytes : List ℕ) (n : ℕ) → 1 ≤ count → (inner_form key).read bytes ≡ Err n
    → (times (inner_form key) count).read bytes ≡ Err n
unfolding times
first_by key zero bytes n some e = absurd (omega (arith, some))
first_by key (suc count) bytes n some e = rw e refl

first_fault : (key : BundleKey) (count : ℕ) (bytes new : List ℕ) (fault : ReadFault) → 1 ≤ count
    → Gives {A = Edit} (Err fault) new ((inner_form key).read bytes)
    → Gives {A = List Edit} (Err fault) new ((times (inner_form key) count).read bytes)
first_fault key count bytes new (faults.Left n) some gives = first_by key count bytes n some gives
first_fault key count bytes new faults.Memory some gives = tt

pub first_exit : (answer : Result (List Edit) ReadFault) (fault : ReadFault) (key : BundleKey) (count : ℕ) (bytes new : List ℕ)
    → IsErrAnd answer (λ x. x ≡ fault) → 1 ≤ count → Gives {A = Edit} (Err fault) new ((inner_form key).read bytes)
    → Gives answer new ((times (inner_form key) count).read bytes)
first_exit (Ok made) fault key count bytes new same some gives = absurd same
first_exit (Err e) fault key count bytes new same some gives =
    subst (λ (f : ReadFault). Gives {A = List Edit} (Err f) new ((times (inner_form key) count).read bytes)) (sym same)
    (first_fault key count bytes new fault some gives)

-- what stops edits that are passed over stops the whole
skips_if : {A B : Type 0} (test : B → Bool) (fault : ReadFault) (left new : List ℕ) (step : Result (A × List ℕ) ℕ)
    (whole : Result (B × List ℕ) ℕ) → Skips {A = A} {U = Unit {0}} (Err fault) left step → ((n : ℕ) → step ≡ Err n → whole ≡ Err n)
    → GivesIf test (Err fault) new whole
skips_if test (faults.Left n) left new step whole gives on = on n gives
skips_if test faults.Memory left new step whole gives on = tt

pub exit_skips : {A B : Type 0} (test : B → Bool) (answer : Result (Option B) ReadFault) (fault : ReadFault) (left new : List ℕ)
    (step : Result (A × List ℕ) ℕ) (whole : Result (B × List ℕ) ℕ) → IsErrAnd answer (λ x. x ≡ fault)
    → Skips {A = A} {U = Unit {0}} (Err fault) left step → ((n : ℕ) → step ≡ Err n → whole ≡ Err n) → GivesIf test answer new whole
exit_skips test (Ok made) fault left new step whole same gives on = absurd same
exit_skips {A = A} {B = B} test (Err e) fault left new step whole same gives on =
    subst (λ (f : ReadFault). GivesIf {A = B} test (Err f) new whole) (sym same)
    (skips_if {A = A} {B = B} test fault left new step whole gives on)

-- edits of a key that is the one that was read
pub made_stop : (old mid behind : List ℕ) (raw key : BundleKey) (count n : ℕ) → key_form.read old ≡ Ok (raw, mid)
    → count_form.read mid ≡ Ok (count, behind) → Some key ≡ if_so is_key raw → (times (inner_form key) count).read behind ≡ Err n
    → several_form.read old ≡ Err n
made_stop old mid behind raw key count n first second made e =
    edits_stop old mid behind raw count n first second
    (subst (λ (k : BundleKey). (times (inner_form k) count).read behind ≡ Err n) (so_by is_key raw key made).0 e)
