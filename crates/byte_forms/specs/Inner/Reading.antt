-- What a reading answers, beside its form.
use Rattle.std.specs.Prelude.{◌≡◌, ℕ, List, Result, Ok, Err}
use Rattle.byte_forms.specs.declared.rest.ReadFault.{ReadFault}
use Rattle.byte_forms.specs.declared.rest.ReadFault.TheVariants as faults

-- the form's answer with the bytes that are left; an answer without memory says nothing
abbrev pub Gives : {A : Type 0} → Result A ReadFault → List ℕ → Result (A × List ℕ) ℕ → Type 0
Gives (Ok v) left there = there ≡ Ok (v, left)
Gives (Err (faults.Left n)) left there = there ≡ Err n
Gives (Err faults.Memory) left there = Unit {0}
