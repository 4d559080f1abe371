-- What the rows of dominance find is what results reach.
use Rattle.std.proofs.Common.{◌≡◌, ℕ, zero, suc, ◌+◌, ◌-◌, ◌<◌, ◌≤◌, Bool, true, false, cond, ◌||◌, List, [], ◌∷◌, length, get_or, map, Option, None, refl, sym, ap, ◌∙◌, arith}
use Rattle.std.specs.List.{filter, list_any, range_with_len}
use Rattle.std.proofs.lemmas.List.{length-map}
use Rattle.level_items.specs.Levels.{ids_of, items_at}
use Rattle.link_graph.specs.declared.link.Link.{Link}
use Rattle.bundle_state.specs.Bundle.{BundleParts}
use Rattle.hier_closure.specs.Dominance.{dominates, ids_at, closure_row, closure_of}
use Rattle.eql_tuples.specs.declared.tuple.Tuple.{Tuple}
use Rattle.eql_rows.specs.declared.span.Span.{Span}
use Rattle.eql_model.specs.Inner.Joins.{bit_at}
use Rattle.eql_tuples.specs.Tuples.{from_to}
use Rattle.eql_rows.specs.Spans.{IsStretchIn}
use Rattle.eql_rows.specs.Rows.{items_of}
use Rattle.eql_model.proofs.Between.{ids_are, ids_count}
use Rattle.eql_model.proofs.Covers.{bit_is}
use Rattle.eql_tuples.proofs.Stretches.{taken_by}
use Rattle.eql_model.proofs.Extents.{stretch_ids}
use Rattle.requery.specs.Reach.{is_kin, kin_at, whole_stretch}
use Rattle.requery.specs.Inner.Ways.{AreKinStretches, kin_stretch, positions_of, union, union_over}
use Rattle.requery.proofs.Unions.{any_test, union_assoc, union_none}

-- ---- the kin of a result

over_same : (f g : ℕ → Option Tuple) (k m : ℕ) → ((i : ℕ) → k ≤ i → i < k + m → f i ≡ g i) →
    union_over f (range_with_len k m) ≡ union_over g (range_with_len k m)
over_same f g k zero same = refl
over_same f g k (suc m) same =
    λ j. union (same k (omega arith) (omega arith) j) (over_same f g (k + 1) m (λ i low high. same i (omega arith) (omega arith)) j)

filter_same : (p q : ℕ → Bool) (k m : ℕ) → ((i : ℕ) → i < k + m → p i ≡ q i) → filter p (range_with_len k m) ≡ filter q (range_with_len k m)
filter_same p q k zero same = refl
filter_same p q k (suc m) same =
    λ j. cond (same k (omega arith) j) (k ∷ filter_same p q (k + 1) m (λ i high. same i (omega arith)) j)
    (filter_same p q (k + 1) m (λ i high. same i (omega arith)) j)

any_same : (p q : ℕ → Bool) (k m : ℕ) → ((i : ℕ) → i < k + m → p i ≡ q i) → list_any p (range_with_len k m) ≡ list_any q (range_with_len k m)
any_same p q k zero same = refl
any_same p q k (suc m) same = λ j. same k (omega arith) j || any_same p q (k + 1) m (λ i high. same i (omega arith)) j

any_map : (p : ℕ → Bool) (f : ℕ → ℕ) (ks : List ℕ) → list_any p (map f ks) ≡ list_any (λ k. p (f k)) ks
any_map p f [] = refl
any_map p f (k ∷ ks) = ap (λ b. p (f k) || b) (any_map p f ks)

pub or_turned : (a b : Bool) → (a || b) ≡ (b || a)
or_turned true true = refl
or_turned true false = refl
or_turned false true = refl
or_turned false false = refl

-- one of two items dominates the other
abbrev kin_of : List Link → ℕ → ℕ → Bool
kin_of links x r = dominates links x r || dominates links r x

module _ (b : BundleParts) (other : ℕ) (span : Span) (there : IsStretchIn b span) where
  ends_there : span.first + (span.last + 1 - span.first) ≤ length (ids_at b.levels span.level)
  ends_there = let n = ids_count b.levels span.level in let rises = there.rises in let within = there.within in omega arith

  pub ids_here : ids_of (items_of b span) ≡ map (λ i. get_or (ids_at b.levels span.level) i 0) (positions_of span)
  ids_here =
      sym (stretch_ids (items_at b.levels span.level) span.first span.last)
      ∙ ap (λ ids. from_to ids span.first span.last) (sym (ids_are b.levels span.level))
      ∙ taken_by (ids_at b.levels span.level) 0 span.first (span.last + 1 - span.first) ends_there

  -- an item of the other level is kin to the result
  kin_here : (k : ℕ) → k < length (ids_at b.levels other) →
      list_any (λ i. bit_at (closure_of b other span.level) i k || bit_at (closure_of b span.level other) k i) (positions_of span)
      ≡ is_kin b.links (ids_of (items_of b span)) (get_or (ids_at b.levels other) k 0)
  kin_here k h =
      let x = get_or (ids_at b.levels other) k 0 in
      any_same (λ i. bit_at (closure_of b other span.level) i k || bit_at (closure_of b span.level other) k i)
      (λ i. kin_of b.links x (get_or (ids_at b.levels span.level) i 0)) span.first (span.last + 1 - span.first)
      (λ i high.
      let within : i < length (ids_at b.levels span.level) = let e = ends_there in omega arith in
      (λ j. bit_is b.links (ids_at b.levels span.level) (ids_at b.levels other) i k within h j
      || bit_is b.links (ids_at b.levels other) (ids_at b.levels span.level) k i h within j)
      ∙ or_turned (dominates b.links (get_or (ids_at b.levels span.level) i 0) x) (dominates b.links x (get_or (ids_at b.levels span.level) i 0)))
      ∙ sym (any_map (kin_of b.links x) (λ i. get_or (ids_at b.levels span.level) i 0) (positions_of span))
      ∙ ap (list_any (kin_of b.links x)) (sym ids_here)

  pub kin_is : (stretches : List (Option Tuple)) → AreKinStretches (closure_of b other span.level) (closure_of b span.level other) stretches →
      union_over (λ i. get_or stretches i None) (positions_of span) ≡ whole_stretch (kin_at b other span)
  kin_is stretches made =
      let down = closure_of b other span.level in
      let up = closure_of b span.level other in
      let downs : length down ≡ length (ids_at b.levels span.level) =
      length-map (ids_at b.levels span.level) (closure_row b.links (ids_at b.levels other)) in
      let ups : length up ≡ length (ids_at b.levels other) =
      length-map (ids_at b.levels other) (closure_row b.links (ids_at b.levels span.level)) in
      over_same (λ i. get_or stretches i None) (kin_stretch down up (length up)) span.first (span.last + 1 - span.first)
      (λ i low high. made.each i (let e = ends_there in omega arith))
      ∙ any_test (λ i k. bit_at down i k || bit_at up k i) (positions_of span) (range_with_len 0 (length up))
      ∙ ap (λ n. whole_stretch (filter (λ k. list_any (λ i. bit_at down i k || bit_at up k i) (positions_of span)) (range_with_len 0 n))) ups
      ∙ ap whole_stretch (filter_same (λ k. list_any (λ i. bit_at down i k || bit_at up k i) (positions_of span))
      (λ k. is_kin b.links (ids_of (items_of b span)) (get_or (ids_at b.levels other) k 0)) 0 (length (ids_at b.levels other))
      (λ k high. kin_here k (let h : k < 0 + length (ids_at b.levels other) = high in omega arith)))

-- ---- one item more of a result

pub over_next : (f : ℕ → Option Tuple) (i n : ℕ) (found more : Option Tuple) (whole : Option Tuple) → i < n → more ≡ union found (f i) →
    union found (union_over f (range_with_len i (n - i))) ≡ whole → union more (union_over f (range_with_len (i + 1) (n - (i + 1)))) ≡ whole
over_next f i n found more whole h put so_far =
    let e : n - i ≡ suc (n - (i + 1)) = omega arith in
    let rest = union_over f (range_with_len (i + 1) (n - (i + 1))) in
    ap (λ a. union a rest) put ∙ union_assoc found (f i) rest
    ∙ ap (λ m. union found (union_over f (range_with_len i m))) (sym e) ∙ so_far

pub over_end : (f : ℕ → Option Tuple) (i n : ℕ) (found whole : Option Tuple) → n ≤ i →
    union found (union_over f (range_with_len i (n - i))) ≡ whole → found ≡ whole
over_end f i n found whole h so_far =
    let e : n - i ≡ 0 = omega arith in
    sym (union_none found) ∙ ap (λ m. union found (union_over f (range_with_len i m))) (sym e) ∙ so_far
