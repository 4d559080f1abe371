-- How a call's answer goes with a definition. Running out of memory alone is left open.
use Rattle.std.specs.Prelude.{◌≡◌, Result, Ok, Err}
use Rattle.json_view.specs.declared.faults.Shape.{Shape}
use Rattle.json_view.specs.declared.faults.ViewFault.{ViewFault}
use Rattle.json_view.specs.declared.faults.ViewFault.TheVariants as fault

-- the answer is the defined value, as f shows it, or the defined fault, or memory ran out
abbrev pub Gives : {A X : Type 0} → (A → X) → Result A ViewFault → Result X Shape → Type 0
Gives f (Ok x) there = there ≡ Ok (f x)
Gives f (Err e) there = (s : Shape) → e ≡ fault.Shape s → there ≡ Err s

-- the fault is this shape, or memory ran out
abbrev pub Tells : ViewFault → Shape → Type 0
Tells e there = (s : Shape) → e ≡ fault.Shape s → s ≡ there
