-- Texts that are written one behind another.
use Rattle.std.proofs.Common.{◌≡◌, ℕ, List, ◌++◌, ap, ◌∙◌, append_assoc}

pub two : (o a b : List ℕ) {s t : List ℕ} → s ≡ o ++ a → t ≡ s ++ b → t ≡ o ++ (a ++ b)
two o a b first second = second ∙ ap (λ (x : List ℕ). x ++ b) first ∙ append_assoc o a b

pub three : (o a b c : List ℕ) {s t u : List ℕ} → s ≡ o ++ a → t ≡ s ++ b → u ≡ t ++ c → u ≡ o ++ (a ++ (b ++ c))
three o a b c {s = s} first second third = two o a (b ++ c) first (two s b c second third)
