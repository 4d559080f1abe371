use Rattle.std.proofs.Common.{◌≡◌, ℕ, Bool, true, false, List, refl, sym, ap, ◌∙◌}
use Rattle.std.specs.Prelude.{Some, None, Result, Ok}
use Rattle.edit_code.specs.Inner.Codes.{head_of, tested}
use Rattle.db_config.specs.Valid.{is_config}
use Rattle.value_codes.specs.Inner.Names.{if_so}
use Rattle.edit_code.proofs.codes.head_of.Goals as goal

-- a value that passed its test is what is answered
tested_by : {A : Type 0} (test : A → Bool) (bytes : List ℕ) (raw v : A) (passes : Bool) → test raw ≡ passes
    → Some v ≡ if_so test raw → tested test bytes (Ok raw) ≡ Ok v
tested_by test bytes raw v true is e =
    let there : if_so test raw ≡ Some raw = rw is refl in
    let same : v ≡ raw = cc in
    let answer : tested test bytes (Ok raw) ≡ Ok raw = rw is refl in
    answer ∙ ap (λ x. Ok x) (sym same)
tested_by test bytes raw v false is e =
    let there : if_so test raw ≡ None = rw is refl in
    absurd cc

tested_so : {A : Type 0} (test : A → Bool) (bytes : List ℕ) (there : Result A ℕ) (raw v : A) → there ≡ Ok raw
    → Some v ≡ if_so test raw → tested test bytes there ≡ Ok v
tested_so test bytes there raw v e is = ap (tested test bytes) e ∙ tested_by test bytes raw v (test raw) refl is

pub returns-in-Some : goal.returns-in-Some
unfolding head_of
returns-in-Some c = tested_so is_config c.args.bytes.now _ _ _ c.in_ok-raw.ensures (sym c.in-Some.is ∙ c.in_ok-config.ensures)
