-- What a test of a value tells.
use Rattle.std.proofs.Common.{◌≡◌, Bool, true, false, refl, sym, ◌∙◌}
use Rattle.std.specs.Prelude.{Some, None}
use Rattle.value_codes.specs.Inner.Names.{if_so}

so_there : {A : Type 0} (test : A → Bool) (x v : A) (passes : Bool) → test x ≡ passes → Some v ≡ if_so test x
    → (v ≡ x) × (test x ≡ true)
so_there test x v true is e =
    let there : if_so test x ≡ Some x = rw is refl in
    let same : v ≡ x = cc in
    (same, is)
so_there test x v false is e =
    let there : if_so test x ≡ None = rw is refl in
    absurd cc

-- a value that is there is the one that passed
pub so_by : {A : Type 0} (test : A → Bool) (x v : A) → Some v ≡ if_so test x → (v ≡ x) × (test x ≡ true)
so_by test x v e = so_there test x v (test x) refl e

so_missing : {A : Type 0} (test : A → Bool) (x : A) (passes : Bool) → test x ≡ passes → None ≡ if_so test x → test x ≡ false
so_missing test x true is e =
    let there : if_so test x ≡ Some x = rw is refl in
    absurd cc
so_missing test x false is e = is

-- where none is there, it did not pass
pub so_not : {A : Type 0} (test : A → Bool) (x : A) → None ≡ if_so test x → test x ≡ false
so_not test x e = so_missing test x (test x) refl e
