-- A value that passes a test, and one that does not.
use Rattle.std.proofs.Common.{◌≡◌, Bool, true, false, refl}
use Rattle.std.specs.Prelude.{Some, None}
use Rattle.value_codes.specs.Inner.Names.{if_so}

-- a value that passes its test
pub so_true : {A : Type 0} (test : A → Bool) (v : A) → test v ≡ true → if_so test v ≡ Some v
so_true test v h = rw h refl

-- one that does not
pub so_false : {A : Type 0} (test : A → Bool) (v : A) → test v ≡ false → if_so test v ≡ None
so_false test v h = rw h refl
