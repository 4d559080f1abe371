-- Words joined block by block, and one by one behind the last block.
use Rattle.std.proofs.Common.{◌≡◌, ◌+◌, ◌-◌, ◌≤◌, inl, inr, ℕ, List, length, take, drop, get_or, ap, sym, ◌∙◌, subst, arith}
use Rattle.std.proofs.lemmas.Bool.{cases_lt}
use Rattle.std.proofs.lemmas.List.{ext_get_or}
use Rattle.std.proofs.lemmas.Simd.{length-zip2, length-chunk, get_or-chunk, get_or-put_chunk_below, get_or-put_chunk_at, get_or-put_chunk_above, get_or-zip2}
use lib.Lanes.{zip2, put_chunk}
use Rattle.lane_bits.specs.Inner.Words.{JoinedIn}

-- eight words that a vector joined
pub eight_joined : (op : ℕ → ℕ → ℕ) (xs ys : List ℕ) (at : ℕ) → at + 8 ≤ length xs → length xs ≡ length ys →
    JoinedIn op xs ys (put_chunk at xs (zip2 op (take 8 (drop at xs)) (take 8 (drop at ys)))) at (at + 8)
eight_joined op xs ys at room same =
    let ls : List ℕ = take 8 (drop at xs) in
    let rs : List ℕ = take 8 (drop at ys) in
    let zs : List ℕ = zip2 op ls rs in
    let left_long : length ls ≡ 8 = length-chunk at 8 xs room in
    let right_long : length rs ≡ 8 = length-chunk at 8 ys (omega arith) in
    let long : length zs ≡ 8 = length-zip2 op ls rs (left_long ∙ sym right_long) ∙ left_long in
    record {
      inside = λ i from to.
          let j : ℕ = i - at in
          let place : at + j ≡ i = omega arith in
          let there : get_or (put_chunk at xs zs) (at + j) 0 ≡ op (get_or xs (at + j) 0) (get_or ys (at + j) 0) =
          get_or-put_chunk_at at xs zs j 0 (omega arith) (omega arith)
          ∙ get_or-zip2 op ls rs j 0 0 0 (omega arith) (omega arith)
          ∙ ap (λ a. op a (get_or rs j 0)) (get_or-chunk at 8 xs j 0 (omega arith))
          ∙ ap (λ b. op (get_or xs (at + j) 0) b) (get_or-chunk at 8 ys j 0 (omega arith)) in
          subst (λ n. get_or (put_chunk at xs zs) n 0 ≡ op (get_or xs n 0) (get_or ys n 0)) place there;
      before = λ i below. get_or-put_chunk_below at xs zs i 0 below;
      behind = λ i past. get_or-put_chunk_above at xs zs i 0 (omega arith);
    }

-- all words joined: those of the blocks, and then those behind them
pub all_joined : (op : ℕ → ℕ → ℕ) (old other mid new : List ℕ) (n : ℕ) → length old ≡ length other → length mid ≡ length old → length new ≡ length mid →
    JoinedIn op old other mid 0 n → JoinedIn op mid other new n (length mid) → new ≡ zip2 op old other
all_joined op old other mid new n same mid_long new_long blocks rest =
    let long : length (zip2 op old other) ≡ length old = length-zip2 op old other same in
    ext_get_or 0 new (zip2 op old other) (new_long ∙ mid_long ∙ sym long) (λ i within.
    let joined : get_or (zip2 op old other) i 0 ≡ op (get_or old i 0) (get_or other i 0) =
    get_or-zip2 op old other i 0 0 0 (omega arith) (omega arith) in
    elim (cases_lt i n) [
      | inl before ↦ rest.before i before ∙ blocks.inside i (omega arith) before ∙ sym joined
      | inr behind ↦ rest.inside i behind (omega arith) ∙ ap (λ a. op a (get_or other i 0)) (blocks.behind i behind) ∙ sym joined
    ])
