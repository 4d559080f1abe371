-- The first line feed, as a search finds it.
use Rattle.std.proofs.Common.{◌≡◌, ℕ, zero, suc, ◌<◌, ◌≤◌, ◌+◌, Bool, true, false, cond, ◌==◌, List, [], ◌∷◌, length, Some, None, refl, sym, ap, arith}
use Rattle.memchr.specs.Find.{IsFirstByte, Passes, is_byte}
use Rattle.script_runs.specs.Inner.Cuts.{line_len}

behind_other : (feed : Bool) (k len : ℕ) → (feed ≡ true → ⊥) → k ≡ len → suc k ≡ cond feed 0 (suc len)
behind_other true k len other is = absurd (other refl)
behind_other false k len other is = ap (λ (n : ℕ). suc n) is

feed_from : (bs : List ℕ) (k : ℕ) → k < length bs → ((j : ℕ) → j < k → ¬ Passes (is_byte 10) bs j) → Passes (is_byte 10) bs k → k ≡ line_len bs
feed_from [] k inside before at = absurd (omega (arith, inside))
feed_from (b ∷ bs) zero inside before at = ap (λ (t : Bool). cond t 0 (suc (line_len bs))) (sym at)
feed_from (b ∷ bs) (suc k) inside before at =
    behind_other (b == 10) k (line_len bs) (λ is. before 0 (omega arith) is)
    (feed_from bs k (omega (arith, inside)) (λ j low. before (suc j) (omega (arith, low))) at)

none_from : (bs : List ℕ) → ((j : ℕ) → j < length bs → ¬ Passes (is_byte 10) bs j) → length bs ≡ line_len bs
none_from [] none = refl
none_from (b ∷ bs) none =
    behind_other (b == 10) (length bs) (line_len bs) (λ is. none 0 (omega arith) is)
    (none_from bs (λ j low. none (suc j) (omega (arith, low))))

-- the place of the first line feed is the length of the line before it
pub feed_at : (bs : List ℕ) (k : ℕ) → IsFirstByte (is_byte 10) bs (Some k) → k ≡ line_len bs
feed_at bs k first = feed_from bs k first.0.high (λ j low. first.0.before j (omega arith) low) first.1

-- without a line feed all bytes are one line
pub no_feed : (bs : List ℕ) → IsFirstByte (is_byte 10) bs None → length bs ≡ line_len bs
no_feed bs none = none_from bs (λ j low. none j (omega arith) low)
