-- Numbers of up to 9 digits are read as they are.
use Rattle.std.proofs.Common.{◌≡◌, ℕ, ◌≤◌, true, List, length, Result, Ok, arith, rules}
use Rattle.std.specs.Str.{all_ascii_digits}
use Rattle.std.specs.Str.Parse.{digits_value, digits_value_after, ParsesUnsigned}
use Rattle.std.proofs.lemmas.Str.Parse.{IsNumeralModel, parse_gives, digits_value_short, numerals_by_fold}

pub own : IsNumeralModel (λ ds. all_ascii_digits ds ≡ true) (digits_value 10)
own = numerals_by_fold _ (search rules) (digits_value_after 10) (search rules)

pub parsed : {E : Type 0} (bs : List ℕ) (r : Result ℕ E) → ParsesUnsigned 32 10 bs r → all_ascii_digits bs ≡ true → 1 ≤ length bs → length bs ≤ 9 → r ≡ Ok (digits_value 10 bs)
parsed bs r h digits some few = parse_gives own 32 bs r h digits some (omega (arith, digits_value_short own bs 9 digits few))
