-- Changes of pages that can be made.
use Rattle.std.proofs.Common.{◌≡◌, ℕ, zero, suc, ◌-◌, ◌+◌, ◌<◌, ◌≤◌, Bool, true, false, nat_le, List, [], ◌∷◌, ◌++◌, length, take, drop, slice_get, Option, Some, None, refl, sym, ◌∙◌, ap, subst, arith, leb-true, length-append, length-take, length-drop}
use Rattle.std.proofs.lemmas.Bool.{false≢true}
use Rattle.emu_names.specs.declared.names.BundleKey.{BundleKey}
use Rattle.bundle_index.specs.Index.{IndexParts}
use Rattle.version_tree.specs.declared.change.Change.{Change}
use Rattle.version_tree.specs.Inner.Version.{indexed_with, others, put_indexed}
use Rattle.version_tree.specs.Inner.Pages.{Each, AreRising, IsPage, KeepPages, IsChangeOf, bundles_on, bundles_behind, pages_behind}
use Rattle.version_tree.specs.Inner.Places.{IsPageFor, IsAtMostOneMore, AreOneLess, bundles_but, has_room}
use Rattle.version_tree.proofs.Elements.{each_at, has_one, is_there, some_same}
use Rattle.version_tree.proofs.Orders.{rising_put, rising_others}
use Rattle.version_tree.proofs.Leaves.{change_holds, change_sized, joined_before, joined_behind, put_on, others_on}
use Rattle.version_tree.proofs.Fullness.{full_put, full_before, full_after, full_alone}

abbrev pub Pages : Type 0
Pages = List (List IndexParts)

-- that a change can be made, and what it leaves
pub record IsMade (pages : Pages) (place : ℕ) (left : List IndexParts) (step : Change) : Type 0 where
  pub change : IsChangeOf pages step
  pub bundles : bundles_behind pages step ≡ bundles_but pages place left

abbrev pub change_of : ℕ → ℕ → List IndexParts → Change
change_of from to bundles = record { from = from; to = to; bundles = bundles }

-- one page has become larger

pub put_made : (pages : Pages) (k to : ℕ) (page bundles : List IndexParts) → slice_get pages k ≡ Some page → KeepPages pages → to ≡ suc k →
    IsAtMostOneMore page bundles → IsChangeOf pages (change_of k to bundles)
put_made pages k to page bundles at keeps next size = subst (λ (n : ℕ). IsChangeOf pages (change_of k n bundles)) (sym next) made
  where
    few : length bundles ≤ 129
    few =
        let most = (each_at IsPage pages k page at keeps.sizes).most in
        let high = size.high in
        omega (arith, most, high)

    made : IsChangeOf pages (change_of k (suc k) bundles)
    made =
        let lt = is_there pages k page at in
        record { ordered = omega arith; within = omega (arith, lt); few = few; full = full_put pages k page bundles at keeps.sizes keeps.full size.low few }

pub put_holds : (new : IndexParts) (pages : Pages) (k to : ℕ) (page bundles : List IndexParts) → IsPageFor new.bundle.key pages k → slice_get pages k ≡ Some page →
    to ≡ suc k → bundles ≡ put_indexed new page → bundles_behind pages (change_of k to bundles) ≡ put_indexed new (bundles_on pages)
put_holds new pages k to page bundles is at next same =
    ap (λ (n : ℕ). bundles_on (take k pages) ++ (bundles ++ bundles_on (drop n pages))) next
    ∙ ap (λ (zs : List IndexParts). bundles_on (take k pages) ++ (zs ++ bundles_on (drop (suc k) pages))) same
    ∙ sym (put_on new pages k page is at)

-- one page has become smaller

pub before_made : (pages : Pages) (place from to : ℕ) (prev left bundles : List IndexParts) → KeepPages pages → AreOneLess pages place left →
    slice_get pages from ≡ Some prev → has_room (length left) (slice_get pages from) ≡ true → place ≡ suc from → to ≡ suc (suc from) → bundles ≡ prev ++ left →
    IsMade pages place left (change_of from to bundles)
before_made pages place from to prev left bundles keeps size at room own next same =
    subst (λ (p : ℕ). IsMade pages p left (change_of from to bundles)) (sym own)
    (subst (λ (n : ℕ). IsMade pages (suc from) left (change_of from n bundles)) (sym next)
    (subst (λ (bs : List IndexParts). IsMade pages (suc from) left (change_of from (suc (suc from)) bs)) (sym same) made))
  where
    page : (x : List IndexParts) × (slice_get pages (suc from) ≡ Some x)
    page = has_one pages (suc from) (subst (λ (p : ℕ). p < length pages) own size.within)

    less : suc (length left) ≡ length page.0
    less = size.less page.0 (subst (λ (p : ℕ). slice_get pages p ≡ Some page.0) (sym own) page.1)

    few : length prev + length left ≤ 64
    few = leb-true (length prev + length left) 64 (sym (ap (has_room (length left)) at) ∙ room)

    made : IsMade pages (suc from) left (change_of from (suc (suc from)) (prev ++ left))
    made =
        let lt = is_there pages (suc from) page.0 page.1 in
        let long = length-append prev left in
        record {
          change = record {
            ordered = omega arith;
            within = omega (arith, lt);
            few = omega (arith, long, few);
            full = full_before pages from prev page.0 left at page.1 keeps.sizes keeps.full less few;
          };
          bundles = joined_before pages from prev left (bundles_on (drop (suc (suc from)) pages)) at;
        }

pub behind_made : (pages : Pages) (place after to : ℕ) (next left bundles : List IndexParts) → KeepPages pages → AreOneLess pages place left →
    slice_get pages after ≡ Some next → has_room (length left) (slice_get pages after) ≡ true → after ≡ suc place → to ≡ suc (suc place) → bundles ≡ left ++ next →
    IsMade pages place left (change_of place to bundles)
behind_made pages place after to next left bundles keeps size there room own more same =
    subst (λ (n : ℕ). IsMade pages place left (change_of place n bundles)) (sym more)
    (subst (λ (bs : List IndexParts). IsMade pages place left (change_of place (suc (suc place)) bs)) (sym same) made)
  where
    at : slice_get pages (suc place) ≡ Some next
    at = subst (λ (p : ℕ). slice_get pages p ≡ Some next) own there

    page : (x : List IndexParts) × (slice_get pages place ≡ Some x)
    page = has_one pages place size.within

    few : length next + length left ≤ 64
    few = leb-true (length next + length left) 64 (sym (ap (has_room (length left)) there) ∙ room)

    made : IsMade pages place left (change_of place (suc (suc place)) (left ++ next))
    made =
        let lt = is_there pages (suc place) next at in
        let long = length-append left next in
        record {
          change = record {
            ordered = omega arith;
            within = omega (arith, lt);
            few = omega (arith, long, few);
            full = full_after pages place page.0 next left page.1 at keeps.sizes keeps.full (size.less page.0 page.1) few;
          };
          bundles = joined_behind pages (suc place) next left (bundles_on (take place pages)) at;
        }

pub alone_made : (pages : Pages) (place after to : ℕ) (left : List IndexParts) → KeepPages pages → AreOneLess pages place left → after ≡ suc place → to ≡ suc place →
    (0 < place → has_room (length left) (slice_get pages (place - 1)) ≡ false) → has_room (length left) (slice_get pages after) ≡ false →
    IsMade pages place left (change_of place to left)
alone_made pages place after to left keeps size own more before behind =
    subst (λ (n : ℕ). IsMade pages place left (change_of place n left)) (sym more) made
  where
    page : (x : List IndexParts) × (slice_get pages place ≡ Some x)
    page = has_one pages place size.within

    less : suc (length left) ≡ length page.0
    less = size.less page.0 page.1

    first : (j : ℕ) → place ≡ suc j → has_room (length left) (slice_get pages j) ≡ false
    first j is =
        let same : place - 1 ≡ j = omega (arith, is) in
        subst (λ (k : ℕ). has_room (length left) (slice_get pages k) ≡ false) same (before (omega (arith, is)))

    made : IsMade pages place left (change_of place (suc place) left)
    made =
        let lt = size.within in
        let most = (each_at IsPage pages place page.0 page.1 keeps.sizes).most in
        record {
          change = record {
            ordered = omega arith;
            within = omega (arith, lt);
            few = omega (arith, most, less);
            full = full_alone pages place page.0 left page.1 keeps.sizes keeps.full less first
                (subst (λ (k : ℕ). has_room (length left) (slice_get pages k) ≡ false) own behind);
          };
          bundles = refl;
        }

-- what is left of one page is one bundle less
pub one_less : (pages : Pages) (k : ℕ) (page left : List IndexParts) → slice_get pages k ≡ Some page → suc (length left) ≡ length page → AreOneLess pages k left
one_less pages k page left at less = record {
  within = is_there pages k page at;
  less = λ other there. less ∙ ap (λ (xs : List IndexParts). length xs) (some_same page other (sym at ∙ there));
}

pub others_hold : (key : BundleKey) (pages : Pages) (k : ℕ) (page left : List IndexParts) → IsPageFor key pages k → slice_get pages k ≡ Some page →
    left ≡ others key page → bundles_but pages k left ≡ others key (bundles_on pages)
others_hold key pages k page left is at same =
    ap (λ (zs : List IndexParts). bundles_on (take k pages) ++ (zs ++ bundles_on (drop (suc k) pages))) same ∙ sym (others_on key pages k page is at)

-- Behind a change that was made.

pub made_keeps : (pages : Pages) (change : Change) (made : Pages) (bundles : List IndexParts) → KeepPages pages → IsChangeOf pages change →
    made ≡ pages_behind pages change → bundles_behind pages change ≡ bundles → AreRising bundles → KeepPages made
made_keeps pages change made bundles keeps can is holds up =
    subst KeepPages (sym is) record {
      sizes = change_sized pages change keeps.sizes can.few;
      full = can.full;
      rising = subst AreRising (sym (change_holds pages change ∙ holds)) up;
    }

pub made_holds : (pages : Pages) (change : Change) (made : Pages) (bundles : List IndexParts) →
    made ≡ pages_behind pages change → bundles_behind pages change ≡ bundles → bundles_on made ≡ bundles
made_holds pages change made bundles is holds = ap bundles_on is ∙ change_holds pages change ∙ holds

-- Bundles on two pages.

pub first_sized : (bundles : List IndexParts) → 128 < length bundles → IsPage (take 64 bundles)
first_sized bundles many = let size = length-take 64 bundles in record { some = omega (arith, many, size); most = omega (arith, many, size) }

pub second_sized : (bundles : List IndexParts) → 128 < length bundles → length bundles ≤ 129 → IsPage (drop 64 bundles)
second_sized bundles many few = let size = length-drop 64 bundles in record { some = omega (arith, many, size); most = omega (arith, few, size) }

pub none_on : (key : BundleKey) (pages : Pages) → length pages ≡ 0 → indexed_with key (bundles_on pages) ≡ None
none_on key [] none = refl
none_on key (p ∷ pages) none = absurd (omega (arith, none))

-- a page that has room is there
pub room_there : (pages : Pages) (place count : ℕ) → has_room count (slice_get pages place) ≡ true → place < length pages
room_there [] place count is = absurd (false≢true is)
room_there (p ∷ pages) zero count is = omega arith
room_there (p ∷ pages) (suc place) count is = let lt = room_there pages place count is in omega (arith, lt)
