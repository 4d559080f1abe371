-- The sum that chooses a label.
use Rattle.std.proofs.Common.{◌≡◌, ℕ, ◌+◌, ◌%◌, ap, ◌∙◌, arith}
use Rattle.std.proofs.Math.Nat.{mod-add-mod}

-- the number may be reduced before the sum is made
pub reduced : (n a b : ℕ) → (n % 5 + a + b) % 5 ≡ (n + a + b) % 5
reduced n a b =
    let left : n % 5 + a + b ≡ n % 5 + (a + b) = omega arith in
    let right : n + (a + b) ≡ n + a + b = omega arith in
    ap (λ x. x % 5) left ∙ mod-add-mod n 5 (a + b) ∙ ap (λ x. x % 5) right
