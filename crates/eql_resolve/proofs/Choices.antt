-- Choices by a test.
use Rattle.std.proofs.Common.{◌≡◌, Bool, true, false, cond, Ok, Err, refl}
use Rattle.eql_resolve.specs.declared.faults.AskFault.{AskFault}

-- a choice that is `Ok` was made by its test
pub ok_if : {X : Type 0} (c : Bool) (x y : X) (e : AskFault) → cond c (Ok x) (Err e) ≡ Ok y → (c ≡ true) × (x ≡ y)
ok_if true x y e is = (refl, cc)
ok_if false x y e is = cc
