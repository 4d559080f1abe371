-- What a reading answers that tests the value too.
use Rattle.std.specs.Prelude.{◌≡◌, ℕ, Bool, true, false, List, [], ◌∷◌, Option, Some, None, Result, Ok, Err}
use Rattle.emu_names.specs.declared.names.BundleKey.{BundleKey}
use Rattle.edit_rules.specs.declared.acts.Act.{Act}
use Rattle.edit_rules.specs.declared.acts.Act.TheVariants as acts
use Rattle.byte_forms.specs.declared.rest.ReadFault.{ReadFault}
use Rattle.byte_forms.specs.declared.rest.ReadFault.TheVariants as faults
use Rattle.edit_code.specs.declared.fields.Fields.{Fields}
use Rattle.edit_code.specs.Fields.{edit_of}
use Rattle.value_codes.specs.Names.{is_key}

-- the form's answer with the bytes that are left: the value, if it passes the test, and none for one that does not; an
-- answer without memory says nothing
abbrev pub GivesIf : {A : Type 0} → (A → Bool) → Result (Option A) ReadFault → List ℕ → Result (A × List ℕ) ℕ → Type 0
GivesIf test (Ok (Some v)) left there = (there ≡ Ok (v, left)) × (test v ≡ true)
GivesIf {A = A} test (Ok None) left there = (v : A) × (there ≡ Ok (v, left)) × (test v ≡ false)
GivesIf test (Err (faults.Left n)) left there = there ≡ Err n
GivesIf test (Err faults.Memory) left there = Unit {0}

-- the form gives some value, and these bytes are left; or it stops there
abbrev pub Skips : {A U : Type 0} → Result U ReadFault → List ℕ → Result (A × List ℕ) ℕ → Type 0
Skips {A = A} (Ok done) left there = (v : A) × (there ≡ Ok (v, left))
Skips (Err (faults.Left n)) left there = there ≡ Err n
Skips (Err faults.Memory) left there = Unit {0}

-- the edit of a key and fields, if the key is one, and none for one that is not
abbrev pub IsMadeOne : BundleKey → Fields → Option Act → Type 0
IsMadeOne key fields None = is_key key ≡ false
IsMadeOne key fields (Some act) = (act ≡ acts.Edits (edit_of key fields ∷ [])) × (is_key key ≡ true)

-- the kind that is there, or how many bytes are left from it
abbrev pub or_left : {K : Type 0} → ℕ → Option K → Result K ReadFault
or_left left (Some k) = Ok k
or_left left None = Err (faults.Left left)

-- what is made of a value, if it passes the test, and none for one that does not
abbrev pub IsMadeAs : {A B : Type 0} → (A → Bool) → (A → B) → A → Option B → Type 0
IsMadeAs test of a None = test a ≡ false
IsMadeAs test of a (Some b) = (b ≡ of a) × (test a ≡ true)
