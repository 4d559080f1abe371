-- Rows of which only some were asked for: what is found by them is found by all rows.
use Rattle.std.proofs.Common.{refl, ◌≡◌, ℕ, ◌<◌, Bool, true, false, ◌||◌, ◌&&◌, List, [], length, map, get_or, sym, ap, subst, ◌∙◌}
use Rattle.std.specs.Prelude.{All}
use Rattle.std.specs.List.{list_any, range_with_len}
use Rattle.std.proofs.lemmas.List.Elements.{All-get_or, All-from_get_or}
use Rattle.std.proofs.lemmas.Option.{unwrap_or-slice_get}
use Rattle.bundle_state.specs.Bundle.{BundleParts}
use Rattle.hier_closure.specs.Dominance.{closure_of}
use Rattle.hier_closure.specs.Inner.Asked.{AgreeWhere}
use Rattle.eql_rows.specs.Inner.Flags.{flag_at}
use Rattle.eql_model.specs.Inner.Joins.{bit_at}
use Rattle.level_items.specs.Levels.{items_at}
use Rattle.eql_model.proofs.Between.{rows_count, rows_wide}
use Rattle.eql_match.specs.Inner.Found.{above_some, is_above_some, is_below_some, with_below}

pub agreed_count : (b : BundleParts) (upper lower n : ℕ) (asked : List Bool) (made : List (List Bool)) →
    AgreeWhere asked (closure_of b lower upper) made → n ≡ length (items_at b.levels upper) → length made ≡ n
agreed_count b upper lower n asked made agree long = agree.count ∙ rows_count b lower upper ∙ sym long

pub agreed_wide : (b : BundleParts) (upper lower n : ℕ) (asked : List Bool) (made : List (List Bool)) →
    AgreeWhere asked (closure_of b lower upper) made → n ≡ length (items_at b.levels lower) → All (λ row. length row ≡ n) made
agreed_wide b upper lower n asked made agree long =
    All-from_get_or (λ row. length row ≡ n) made [] (λ k within.
    agree.wide k within
    ∙ All-get_or (λ row. length row ≡ length (items_at b.levels lower)) (closure_of b lower upper) k []
    (subst (λ (m : ℕ). k < m) agree.count within) (rows_wide b lower upper)
    ∙ sym long)

asked_at : (asked : List Bool) (k : ℕ) → flag_at k asked ≡ true → get_or asked k false ≡ true
asked_at asked k set = sym (unwrap_or-slice_get asked k false) ∙ set

and_same : (b x y : Bool) → (b ≡ true → x ≡ y) → (b && x) ≡ (b && y)
and_same true x y same = same refl
and_same false x y same = refl

-- the left items that dominate some right one
pub agreed_above : (rows made : List (List Bool)) (lefts rights : List Bool) → AgreeWhere lefts rows made →
    above_some made lefts rights ≡ above_some rows lefts rights
agreed_above rows made lefts rights agree = λ i. map (λ k. each k i) (range_with_len 0 (length lefts))
  where
    each : (k : ℕ) → (flag_at k lefts && is_above_some made rights k) ≡ (flag_at k lefts && is_above_some rows rights k)
    each k =
        and_same (flag_at k lefts) (is_above_some made rights k) (is_above_some rows rights k)
        (λ set. ap (λ row. list_any (λ j. flag_at j rights && get_or row j false) (range_with_len 0 (length rights)))
        (agree.each k (asked_at lefts k set)))

-- the left items that some right one dominates
pub agreed_below : (rows made : List (List Bool)) (lefts rights before : List Bool) → AgreeWhere rights rows made →
    with_below made lefts rights before ≡ with_below rows lefts rights before
agreed_below rows made lefts rights before agree =
    λ i. map (λ k. (flag_at k before || below k i) && flag_at k lefts) (range_with_len 0 (length lefts))
  where
    bit : (k j : ℕ) → (flag_at j rights && bit_at made j k) ≡ (flag_at j rights && bit_at rows j k)
    bit k j =
        and_same (flag_at j rights) (bit_at made j k) (bit_at rows j k)
        (λ set. ap (λ row. get_or row k false) (agree.each j (asked_at rights j set)))

    below : (k : ℕ) → is_below_some made rights k ≡ is_below_some rows rights k
    below k = λ i. list_any (λ j. bit k j i) (range_with_len 0 (length rights))
