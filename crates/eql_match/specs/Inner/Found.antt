-- What a part of a query finds: single items by their bits, or tuples.
use Rattle.std.specs.Prelude.{◌≡◌, ℕ, ◌+◌, ◌<◌, ◌≤◌, Bool, true, false, ◌&&◌, ◌||◌, List, length, map, Result, Ok, Err}
use Rattle.std.specs.List.{filter, list_any, range_with_len}
use Rattle.emu_names.specs.declared.limits.TheConstants.{BUNDLE_ITEMS}
use Rattle.db_config.specs.declared.parts.ConfigParts.{ConfigParts}
use Rattle.bundle_state.specs.Bundle.{BundleParts}
use Rattle.eql_resolve.specs.Asked.{AskedQuery, is_marked, level_of}
use Rattle.eql_tuples.specs.declared.tuple.Tuple.{Tuple}
use Rattle.eql_tuples.specs.declared.faults.MatchFault.{MatchFault}
use Rattle.eql_tuples.specs.declared.faults.MatchFault.TheVariants.{TooManyTuples, Memory}
use Rattle.eql_rows.specs.Inner.Flags.{flag_at}
use Rattle.eql_model.specs.Inner.Joins.{bit_at}
use Rattle.eql_model.specs.Meaning.{has_too_many, single, tuples}
use Rattle.level_items.specs.Levels.{items_at}
use Rattle.eql_tuples.specs.Tuples.{both}
use Rattle.eql_match.specs.declared.found.Found.{Found}
use Rattle.eql_match.specs.declared.found.Found.TheVariants.{Items, Tuples}
use Rattle.eql_match.specs.declared.found.Sides.{Sides}
use Rattle.eql_match.specs.declared.found.Sides.TheVariants.{Rows, Lists}

-- the tuples of the places of a row that are set, in order
abbrev pub items_of : List Bool → List Tuple
items_of row = map (single false) (filter (λ k. flag_at k row) (range_with_len 0 (length row)))

-- what was found, as a list of tuples
abbrev pub tuples_in : Found → List Tuple
tuples_in (Items row) = items_of row
tuples_in (Tuples ts) = ts

-- a row has a bit for each of so many items, and stands for no mark
abbrev pub IsRowOf : ℕ → Bool → Found → Type 0
IsRowOf n marked (Items row) = (length row ≡ n) × (marked ≡ false)
IsRowOf n marked (Tuples ts) = Unit {0}

-- what was found are the tuples of the query, no part of which has too many
abbrev pub AreFoundFor : Found → ConfigParts → BundleParts → AskedQuery → Type 0
AreFoundFor found c b q =
    (tuples_in found ≡ tuples c b q) × (has_too_many c b q ≡ false)
    × IsRowOf (length (items_at b.levels (level_of q))) (is_marked q) found

-- what was found are the tuples of the query, and no part of it has too many; or some part has
abbrev pub FindsAll : Result Found MatchFault → ConfigParts → BundleParts → AskedQuery → Type 0
FindsAll (Ok found) c b q = AreFoundFor found c b q
FindsAll (Err TooManyTuples) c b q = has_too_many c b q ≡ true
FindsAll (Err Memory) c b q = Unit {0}

-- the stretch of an item and the one behind it
abbrev pub neighbours : ℕ → Tuple
neighbours k = both (single false k) (single false (k + 1))

-- the stretches of each two items, of which the right one stands behind the left one
abbrev pub followed : List Bool → List Bool → List Tuple
followed lefts rights =
    map neighbours (filter (λ k. flag_at k lefts && flag_at (k + 1) rights) (range_with_len 0 (length lefts)))

-- the left item dominates some right one, by the rows of the left items
abbrev pub is_above_some : List (List Bool) → List Bool → ℕ → Bool
is_above_some rows rights k =
    list_any (λ j. flag_at j rights && bit_at rows k j) (range_with_len 0 (length rights))

-- some right item dominates the left one, by the rows of the right items
abbrev pub is_below_some : List (List Bool) → List Bool → ℕ → Bool
is_below_some rows rights k =
    list_any (λ j. flag_at j rights && bit_at rows j k) (range_with_len 0 (length rights))

-- the left items that dominate some right one
abbrev pub above_some : List (List Bool) → List Bool → List Bool → List Bool
above_some rows lefts rights =
    map (λ k. flag_at k lefts && is_above_some rows rights k) (range_with_len 0 (length lefts))

-- the left items that had their bits before, and those that some right one dominates
abbrev pub with_below : List (List Bool) → List Bool → List Bool → List Bool → List Bool
with_below rows lefts rights before =
    map (λ k. (flag_at k before || is_below_some rows rights k) && flag_at k lefts) (range_with_len 0 (length lefts))

-- the left items of which one dominates some right item, or some right item dominates it
pub record AreDominant (down up : List (List Bool)) (lefts rights made : List Bool) : Type 0 where
  pub count : length made ≡ length lefts
  pub each : (k : ℕ) → k < length lefts →
      flag_at k made ≡ (flag_at k lefts && (is_above_some down rights k || is_below_some up rights k))

-- a row is no longer than a bundle has items
abbrev pub IsShort : Found → Type 0
IsShort (Items row) = length row ≤ BUNDLE_ITEMS
IsShort (Tuples ts) = Unit {0}

-- what two parts find, side by side: their rows, or the lists of their tuples
abbrev pub AreSides : Found → Found → Sides → Type 0
AreSides lefts rights (Rows l r) = (lefts ≡ Items l) × (rights ≡ Items r)
AreSides lefts rights (Lists ls rs) = (ls ≡ tuples_in lefts) × (rs ≡ tuples_in rights)

-- no bit of a row is set
abbrev pub IsClear : List Bool → Type 0
IsClear row = (k : ℕ) → flag_at k row ≡ false

-- where an answer is yes, no bit of a row is set
abbrev pub IsClearWhere : Bool → List Bool → Type 0
IsClearWhere answer row = answer ≡ true → IsClear row
