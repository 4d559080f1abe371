-- Texts that are written one behind another.
use Rattle.std.proofs.Common.{◌≡◌, ℕ, List, ◌++◌, ap, ◌∙◌, append_assoc}

pub two : (o a b : List ℕ) {s t : List ℕ} → s ≡ o ++ a → t ≡ s ++ b → t ≡ o ++ (a ++ b)
two o a b first second = second ∙ ap (λ (x : List ℕ). x ++ b) first ∙ append_assoc o a b

pub three : (o a b c : List ℕ) {s t u : List ℕ} → s ≡ o ++ a → t ≡ s ++ b → u ≡ t ++ c → u ≡ o ++ (a ++ (b ++ c))
three o a b c {s = s} first second third = two o a (b ++ c) first (two s b c second third)

pub four : (o a b c d : List ℕ) {s t u v : List ℕ} → s ≡ o ++ a → t ≡ s ++ b → u ≡ t ++ c → v ≡ u ++ d →
    v ≡ o ++ (a ++ (b ++ (c ++ d)))
four o a b c d {s = s} first second third fourth = two o a (b ++ (c ++ d)) first (three s b c d second third fourth)

pub five : (o a b c d e : List ℕ) {s t u v w : List ℕ} → s ≡ o ++ a → t ≡ s ++ b → u ≡ t ++ c → v ≡ u ++ d → w ≡ v
    ++ e →
    w ≡ o ++ (a ++ (b ++ (c ++ (d ++ e))))
five o a b c d e {s = s} first second third fourth fifth =
    two o a (b ++ (c ++ (d ++ e))) first (four s b c d e second third fourth fifth)

pub six : (o a b c d e f : List ℕ) {s t u v w x : List ℕ} → s ≡ o ++ a → t ≡ s ++ b → u ≡ t ++ c → v ≡ u ++ d → w
    ≡ v ++ e →
    x ≡ w ++ f → x ≡ o ++ (a ++ (b ++ (c ++ (d ++ (e ++ f)))))
six o a b c d e f {s = s} first second third fourth fifth sixth =
    two o a (b ++ (c ++ (d ++ (e ++ f)))) first (five s b c d e f second third fourth fifth sixth)
