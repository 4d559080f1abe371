-- Quotients rounded up, down and to the nearest.
use Rattle.std.proofs.Common.{◌≡◌, ℕ, ◌+◌, ◌*◌, ◌/◌, ◌%◌, ◌<◌, arith, refl}
use Rattle.std.specs.Int.{div_ceil}
use Rattle.std.proofs.Math.Nat.{div-eq_of_lt, mod-eq_of_lt}

-- more than nothing of a whole, rounded up, is one
pub ceil_of_part : (a b : ℕ) → 0 < a → a < b → div_ceil a b ≡ 1
ceil_of_part a b some part =
    let none : a / b ≡ 0 = div-eq_of_lt part in
    let all : a % b ≡ a = mod-eq_of_lt part in
    rw (none, all) (omega arith)

pub ceil_of_none : (b : ℕ) → 0 < b → div_ceil 0 b ≡ 0
ceil_of_none b some =
    let none : 0 / b ≡ 0 = div-eq_of_lt some in
    let all : 0 % b ≡ 0 = mod-eq_of_lt some in
    rw (none, all) refl

-- less than half of a whole is nearest to none
pub nearest_of_part : (a b : ℕ) → 2 * a < b → (2 * a + b) / (2 * b) ≡ 0
nearest_of_part a b part = div-eq_of_lt (omega arith)
