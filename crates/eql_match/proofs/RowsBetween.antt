-- The items above and below some, by the rows between two levels.
use Rattle.std.proofs.Common.{refl, ◌≡◌, ℕ, ◌≤◌, Bool, true, false, ◌||◌, ◌&&◌, List, length, map, get_or, sym, ap, subst, ◌∙◌, arith}
use Rattle.std.specs.Prelude.{All, replicate}
use Rattle.std.specs.List.{range_with_len}
use Rattle.std.proofs.lemmas.List.{get_or-replicate, length-replicate}
use Rattle.std.proofs.lemmas.List.FromFn.{fill_by_all, length-map-range_with_len}
use Rattle.emu_names.specs.declared.limits.TheConstants.{BUNDLE_ITEMS}
use Rattle.db_config.specs.Above.{is_above}
use Rattle.bundle_state.specs.Bundle.{BundleParts}
use Rattle.bundle_state.specs.Valid.{KeepsBundleRules}
use Rattle.hier_closure.specs.Dominance.{closure_of}
use Rattle.eql_rows.specs.Inner.Flags.{flag_at}
use Rattle.eql_model.specs.Inner.Joins.{bit_at}
use Rattle.level_items.specs.Levels.{items_at}
use Rattle.eql_model.proofs.Between.{rows_count, rows_wide}
use Rattle.eql_model.proofs.Conditions.{level_few}
use Rattle.eql_match.specs.Inner.Found.{above_some, is_above_some, is_below_some, AreDominant}
use Rattle.eql_match.proofs.Aside.{no_bit_aside}
use Rattle.eql_columns.proofs.Bits.{or_false}
use Rattle.eql_columns.proofs.Standing.{flag_in}
use Rattle.eql_match.proofs.Steps.{none_any}

and_last : (a b : Bool) → b ≡ false → (a && b) ≡ false
and_last a b is = ap (λ c. a && c) is ∙ and_no a
  where
    and_no : (a : Bool) → (a && false) ≡ false
    and_no true = refl
    and_no false = refl

clear_row : (f : ℕ → Bool) (n : ℕ) (made : List Bool) → ((k : ℕ) → f k ≡ false) → made ≡ replicate n false → made ≡ map f (range_with_len 0 n)
clear_row f n made none is =
    fill_by_all f made n false (ap length is ∙ length-replicate n false)
    (λ k below. ap (λ row. get_or row k false) is ∙ get_or-replicate n k false false below ∙ sym (none k))

pub none_above : (b : BundleParts) (upper lower : ℕ) (lefts rights made : List Bool) → KeepsBundleRules b →
    is_above b.definitions upper lower ≡ false → made ≡ replicate (length lefts) false → made ≡ above_some (closure_of b lower upper) lefts rights
none_above b upper lower lefts rights made rules aside is =
    clear_row (λ k. flag_at k lefts && is_above_some (closure_of b lower upper) rights k) (length lefts) made
    (λ k. and_last (flag_at k lefts) (is_above_some (closure_of b lower upper) rights k)
    (none_any (λ j. flag_at j rights && bit_at (closure_of b lower upper) k j) 0 (length rights)
    (λ j low high. and_last (flag_at j rights) (bit_at (closure_of b lower upper) k j) (no_bit_aside b upper lower rules aside k j)))) is

-- where no right item dominates a left one, those that dominate are all
pub only_above : (b : BundleParts) (upper lower : ℕ) (down : List (List Bool)) (lefts rights made : List Bool) → KeepsBundleRules b →
    is_above b.definitions upper lower ≡ false → made ≡ above_some down lefts rights →
    AreDominant down (closure_of b lower upper) lefts rights made
only_above b upper lower down lefts rights made rules aside is = record {
  count = ap length is ∙ length-map-range_with_len (λ k. flag_at k lefts && is_above_some down rights k) 0 (length lefts);
  each = λ k within.
      flag_in (λ j. flag_at j lefts && is_above_some down rights j) made (length lefts) k is within
      ∙ ap (λ c. flag_at k lefts && c) (sym (or_false (is_above_some down rights k)) ∙ ap (λ c. is_above_some down rights k || c) (sym (none k)));
}
  where
    none : (k : ℕ) → is_below_some (closure_of b lower upper) rights k ≡ false
    none k =
        none_any (λ j. flag_at j rights && bit_at (closure_of b lower upper) j k) 0 (length rights)
        (λ j low high. and_last (flag_at j rights) (bit_at (closure_of b lower upper) j k) (no_bit_aside b upper lower rules aside j k))

pub rows_are : (b : BundleParts) (upper lower n : ℕ) (rows : List (List Bool)) → rows ≡ closure_of b lower upper →
    n ≡ length (items_at b.levels upper) → length rows ≡ n
rows_are b upper lower n rows are long = ap length are ∙ rows_count b lower upper ∙ sym long

pub all_wide : (b : BundleParts) (upper lower n : ℕ) (rows : List (List Bool)) → rows ≡ closure_of b lower upper →
    n ≡ length (items_at b.levels lower) → All (λ row. length row ≡ n) rows
all_wide b upper lower n rows are long =
    subst (λ (m : ℕ). All (λ row. length row ≡ m) rows) (sym long)
    (subst (λ (rs : List (List Bool)). All (λ row. length row ≡ length (items_at b.levels lower)) rs) (sym are) (rows_wide b lower upper))

pub row_few : (b : BundleParts) (level n : ℕ) → KeepsBundleRules b → n ≡ length (items_at b.levels level) → n ≤ BUNDLE_ITEMS
row_few b level n rules long =
    let few = level_few b.levels level in
    let all = rules.few_items in
    omega arith
