-- No tuple covers one on a level to which no path of definitions leads down.
use Rattle.std.proofs.Common.{◌≡◌, ℕ, zero, suc, ◌+◌, ◌-◌, ◌<◌, Bool, true, false, ◌&&◌, ◌||◌, List, [], ◌∷◌, ◌++◌, length, map, replicate, get_or, nat_le, nat_lt, refl, sym, ap, ◌∙◌, arith}
use Rattle.std.specs.Prelude.{All}
use Rattle.std.specs.List.{filter, flat_map, list_all, list_any, range_with_len}
use Rattle.std.proofs.lemmas.Bool.{and_parts, cond-false}
use Rattle.std.proofs.lemmas.Bool.Decides.{nat_tests}
use Rattle.std.proofs.lemmas.List.Concat.{flat_map-cons}
use Rattle.std.proofs.lemmas.List.Elements.{All-head, All-tail}
use Rattle.bundle_state.specs.Bundle.{BundleParts}
use Rattle.bundle_state.specs.Valid.{KeepsBundleRules}
use Rattle.db_config.specs.Above.{is_above}
use Rattle.hier_closure.specs.Dominance.{ids_at, closure_of}
use Rattle.hier_closure.proofs.Alike.{rows_aside}
use Rattle.eql_tuples.specs.declared.tuple.Tuple.{Tuple}
use Rattle.eql_model.specs.Inner.Joins.{bit_at, is_under, bits_cover}
use Rattle.eql_tuples.specs.Inner.Stretches.{positions}
use Rattle.eql_tuples.specs.Tuples.{fits_in, left_with, pairs_with, joined}
use Rattle.eql_model.specs.Meaning.{LieOn}
use Rattle.level_items.specs.Levels.{items_at}
use Rattle.eql_tuples.specs.Sets.{is_over, put_all}
use Rattle.eql_match.specs.Inner.Ways.{with_left, covering_pairs, covered_pairs}

-- ---- nothing on one side

none_right : (goes : Tuple → Tuple → Bool) (make : Tuple → Tuple → Tuple) (ls : List Tuple) → flat_map (pairs_with goes make []) ls ≡ []
none_right goes make [] = refl
none_right goes make (l ∷ ls) = flat_map-cons (pairs_with goes make []) l ls ∙ none_right goes make ls

-- a list without elements
no_tuples : (ts : List Tuple) → length ts ≡ 0 → ts ≡ []
no_tuples [] none = refl
no_tuples (t ∷ ts) none = absurd (omega arith)

-- the set of no pairs
abbrev pub IsNothing : (Tuple → Tuple → Bool) → (Tuple → Tuple → Tuple) → List Tuple → List Tuple → List Tuple → Type 0
IsNothing goes make ls rs made = (made ≡ joined goes make ls rs) × (is_over (joined goes make ls rs) ≡ false)

nothing_made : (made set : List Tuple) → made ≡ [] → set ≡ [] → (made ≡ set) × (is_over set ≡ false)
nothing_made made set is none = (is ∙ sym none, ap is_over none)

pub nothing_left : (goes : Tuple → Tuple → Bool) (make : Tuple → Tuple → Tuple) (ls rs made : List Tuple) → made ≡ [] → length ls ≡ 0 →
    IsNothing goes make ls rs made
nothing_left goes make ls rs made is none =
    nothing_made made (joined goes make ls rs) is (ap (λ xs. joined goes make xs rs) (no_tuples ls none))

pub nothing_right : (goes : Tuple → Tuple → Bool) (make : Tuple → Tuple → Tuple) (ls rs made : List Tuple) → made ≡ [] → length rs ≡ 0 →
    IsNothing goes make ls rs made
nothing_right goes make ls rs made is none =
    nothing_made made (joined goes make ls rs) is
    (ap (λ xs. joined goes make ls xs) (no_tuples rs none) ∙ ap (put_all []) (none_right goes make ls))

-- ---- rows without bits

no_bit_in : (width j : ℕ) → get_or (replicate width false) j false ≡ false
no_bit_in zero j = refl
no_bit_in (suc width) zero = refl
no_bit_in (suc width) (suc j) = no_bit_in width j

no_bit : (count width i j : ℕ) → bit_at (replicate count (replicate width false)) i j ≡ false
no_bit zero width i j = refl
no_bit (suc count) width zero j = no_bit_in width j
no_bit (suc count) width (suc i) j = no_bit count width i j

none_of : (p : ℕ → Bool) (xs : List ℕ) → ((x : ℕ) → p x ≡ false) → list_any p xs ≡ false
none_of p [] none = refl
none_of p (x ∷ xs) none = λ i. none x i || none_of p xs none i

not_all : (p : ℕ → Bool) (k n : ℕ) → 0 < n → ((x : ℕ) → p x ≡ false) → list_all p (range_with_len k n) ≡ false
not_all p k zero some none = absurd (omega arith)
not_all p k (suc n) some none = ap (λ b. b && list_all p (range_with_len (k + 1) n)) (none k)

some_place : (n : ℕ) (t : Tuple) → fits_in n t ≡ true → 0 < t.last + 1 - t.first
some_place n t fits =
    let rises : nat_le t.first t.last ≡ true = (and_parts (nat_le t.first t.last) (nat_lt t.last n) fits).0 in
    grind (arith, nat_tests)

cover_none : (b : BundleParts) (upper lower n : ℕ) (one other : Tuple) → KeepsBundleRules b → is_above b.definitions upper lower ≡ false →
    fits_in n other ≡ true → bits_cover (closure_of b lower upper) one other ≡ false
cover_none b upper lower n one other rules aside fits =
    ap (λ rows. bits_cover rows one other)
    (sym (rows_aside b upper lower count width (replicate width false) rules aside refl refl refl))
    ∙ not_all (is_under (replicate count (replicate width false)) one) other.first (other.last + 1 - other.first) (some_place n other fits)
    (λ j. none_of (λ i. bit_at (replicate count (replicate width false)) i j) (positions one) (λ i. no_bit count width i j))
  where
    count : ℕ
    count = length (ids_at b.levels upper)

    width : ℕ
    width = length (ids_at b.levels lower)

-- ---- no pairs

filter_none : (p : Tuple → Bool) (ts : List Tuple) (n : ℕ) → All (λ t. fits_in n t ≡ true) ts →
    ((t : Tuple) → fits_in n t ≡ true → p t ≡ false) → filter p ts ≡ []
filter_none p [] n fit none = refl
filter_none p (t ∷ ts) n fit none =
    cond-false (p t) (t ∷ filter p ts) (filter p ts) (none t (All-head (λ (u : Tuple). fits_in n u ≡ true) t ts fit))
    ∙ filter_none p ts n (All-tail (λ (u : Tuple). fits_in n u ≡ true) t ts fit) none

pairs_none : (goes : Tuple → Tuple → Bool) (make : Tuple → Tuple → Tuple) (ones others : List Tuple) (n : ℕ) →
    All (λ t. fits_in n t ≡ true) others → ((one other : Tuple) → fits_in n other ≡ true → goes one other ≡ false) →
    flat_map (pairs_with goes make others) ones ≡ []
pairs_none goes make [] others n fit none = refl
pairs_none goes make (one ∷ ones) others n fit none =
    flat_map-cons (pairs_with goes make others) one ones
    ∙ (λ i. map (make one) (filter_none (goes one) others n fit (none one) i) ++ pairs_none goes make ones others n fit none i)

covering_none : (b : BundleParts) (levels : ℕ × ℕ) (ls rs : List Tuple) → KeepsBundleRules b →
    is_above b.definitions levels.0 levels.1 ≡ false → LieOn b.levels levels.1 rs → covering_pairs b levels ls rs ≡ []
covering_none b levels ls rs rules aside lie =
    pairs_none (bits_cover (closure_of b levels.1 levels.0)) left_with ls rs (length (items_at b.levels levels.1)) lie
    (λ one other fits. cover_none b levels.0 levels.1 (length (items_at b.levels levels.1)) one other rules aside fits)

covered_none : (b : BundleParts) (levels : ℕ × ℕ) (ls rs : List Tuple) → KeepsBundleRules b →
    is_above b.definitions levels.1 levels.0 ≡ false → LieOn b.levels levels.0 ls → covered_pairs b levels ls rs ≡ []
covered_none b levels ls rs rules aside lie =
    pairs_none (bits_cover (closure_of b levels.0 levels.1)) with_left rs ls (length (items_at b.levels levels.0)) lie
    (λ one other fits. cover_none b levels.1 levels.0 (length (items_at b.levels levels.0)) one other rules aside fits)

pub covering_kept : (b : BundleParts) (levels : ℕ × ℕ) (ls rs gathered : List Tuple) → KeepsBundleRules b →
    is_above b.definitions levels.0 levels.1 ≡ false → LieOn b.levels levels.1 rs →
    gathered ≡ put_all gathered (covering_pairs b levels ls rs)
covering_kept b levels ls rs gathered rules aside lie = sym (ap (put_all gathered) (covering_none b levels ls rs rules aside lie))

pub covered_kept : (b : BundleParts) (levels : ℕ × ℕ) (ls rs gathered : List Tuple) → KeepsBundleRules b →
    is_above b.definitions levels.1 levels.0 ≡ false → LieOn b.levels levels.0 ls →
    gathered ≡ put_all gathered (covered_pairs b levels ls rs)
covered_kept b levels ls rs gathered rules aside lie = sym (ap (put_all gathered) (covered_none b levels ls rs rules aside lie))

-- ---- rows between such levels

pub no_bit_aside : (b : BundleParts) (upper lower : ℕ) → KeepsBundleRules b → is_above b.definitions upper lower ≡ false → (i j : ℕ) →
    bit_at (closure_of b lower upper) i j ≡ false
no_bit_aside b upper lower rules aside i j =
    ap (λ rows. bit_at rows i j)
    (sym (rows_aside b upper lower (length (ids_at b.levels upper)) (length (ids_at b.levels lower)) (replicate (length (ids_at b.levels lower)) false)
    rules aside refl refl refl))
    ∙ no_bit (length (ids_at b.levels upper)) (length (ids_at b.levels lower)) i j
