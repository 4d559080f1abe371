-- The first line of bytes, and the lines behind it.
use Rattle.std.proofs.Common.{◌≡◌, ℕ, suc, ◌<◌, Bool, true, false, cond, ◌==◌, List, [], ◌∷◌, length, take, drop, refl, ◌∙◌, ap, arith}
use Rattle.script_runs.specs.Cuts.{cut, put_front}
use Rattle.script_runs.specs.Inner.Cuts.{line_len}

cut_at_head : (past feed : Bool) (b : ℕ) (bs : List ℕ) → (line_len bs < length bs → cut past bs ≡ take (line_len bs) bs ∷ cut past (drop 1 (drop (line_len bs) bs))) → cond feed 0 (suc (line_len bs)) < suc (length bs) → cond feed ([] ∷ cut past bs) (put_front past b (cut past bs)) ≡ take (cond feed 0 (suc (line_len bs))) (b ∷ bs) ∷ cut past (drop 1 (drop (cond feed 0 (suc (line_len bs))) (b ∷ bs)))
cut_at_head past true b bs later h = refl
cut_at_head past false b bs later h = ap (put_front past b) (later (omega arith))

-- a line that ends in a line feed, and the lines behind it
pub cut_at : (past : Bool) (bs : List ℕ) → line_len bs < length bs → cut past bs ≡ take (line_len bs) bs ∷ cut past (drop 1 (drop (line_len bs) bs))
cut_at past [] h = absurd (omega arith)
cut_at past (b ∷ bs) h = cut_at_head past (b == 10) b bs (cut_at past bs) h

cut_past_head : (feed : Bool) (b : ℕ) (bs : List ℕ) → (line_len bs ≡ length bs → cut true bs ≡ []) → cond feed 0 (suc (line_len bs)) ≡ suc (length bs) → cond feed ([] ∷ cut true bs) (put_front true b (cut true bs)) ≡ []
cut_past_head true b bs later h = absurd (omega arith)
cut_past_head false b bs later h = ap (put_front true b) (later (omega arith))

-- with no line feed left, and more to come, no line is whole
pub cut_past : (bs : List ℕ) → line_len bs ≡ length bs → cut true bs ≡ []
cut_past [] h = refl
cut_past (b ∷ bs) h = cut_past_head (b == 10) b bs (cut_past bs) h

-- the one line of bytes, or none
abbrev pub one_line_of : List ℕ → List (List ℕ)
one_line_of [] = []
one_line_of (b ∷ bs) = (b ∷ bs) ∷ []

put_one : (b : ℕ) (bs : List ℕ) → put_front false b (one_line_of bs) ≡ (b ∷ bs) ∷ []
put_one b [] = refl
put_one b (c ∷ bs) = refl

cut_last_head : (feed : Bool) (b : ℕ) (bs : List ℕ) → (line_len bs ≡ length bs → cut false bs ≡ one_line_of bs) → cond feed 0 (suc (line_len bs)) ≡ suc (length bs) → cond feed ([] ∷ cut false bs) (put_front false b (cut false bs)) ≡ (b ∷ bs) ∷ []
cut_last_head true b bs later h = absurd (omega arith)
cut_last_head false b bs later h = ap (put_front false b) (later (omega arith)) ∙ put_one b bs

-- with no line feed left, and nothing more to come, all that is left is one line
pub cut_last : (bs : List ℕ) → line_len bs ≡ length bs → cut false bs ≡ one_line_of bs
cut_last [] h = refl
cut_last (b ∷ bs) h = cut_last_head (b == 10) b bs (cut_last bs) h

pub one_line : (bs : List ℕ) → 0 < length bs → one_line_of bs ≡ bs ∷ []
one_line [] h = absurd (omega arith)
one_line (b ∷ bs) h = refl
