-- How many bytes of UTF-8 characters of UTF-16 take.
use Rattle.std.proofs.Common.{◌≡◌, ℕ, ◌<◌, ◌≤◌, ◌*◌, ◌+◌, Bool, true, false, cond, List, length, ◌++◌, arith, length-append}
use Rattle.std.specs.Prelude.{encode_utf8}
use Rattle.std.specs.Char.{len_utf8}
use Rattle.std.proofs.lemmas.Str.{length-encode}
use Rattle.std.proofs.lemmas.Bool.Decides.{nat_tests}

most_four : (x y z : Bool) → cond x 1 (cond y 2 (cond z 3 4)) ≤ 4
most_four true y z = omega arith
most_four false true z = omega arith
most_four false false true = omega arith
most_four false false false = omega arith

most_three : (x y z : Bool) → z ≡ true → cond x 1 (cond y 2 (cond z 3 4)) ≤ 3
most_three true y z is = omega arith
most_three false true z is = omega arith
most_three false false true is = omega arith
most_three false false false is = cc

-- a character takes at most four bytes, and one below 2^16 at most three
pub four_bytes : (c : ℕ) → 2 * length (encode_utf8 c) ≤ 12
four_bytes c = let most : len_utf8 c ≤ 4 = most_four _ _ _ in omega (arith, length-encode c)

pub three_bytes : (c : ℕ) → c < 65536 → 2 * length (encode_utf8 c) ≤ 6
three_bytes c low =
    let most : len_utf8 c ≤ 3 = most_three _ _ _ (grind (arith, nat_tests)) in omega (arith, length-encode c)

pub text_grows : (old new piece rest after bytes : List ℕ) (n : ℕ) → new ≡ old ++ piece → 2 * length piece ≤ 3 * n → length after + n ≡ length rest → 2 * length old + 3 * length rest ≤ 3 * length bytes → 2 * length new + 3 * length after ≤ 3 * length bytes
text_grows old new piece rest after bytes n grown size left was =
    rw grown (omega (arith, length-append old piece))
