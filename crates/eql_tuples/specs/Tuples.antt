-- Tuples of a query in one bundle, and what joins two of them (EMU-SDMS Manual, "The EMU Query Language
-- (EQL)": sequence and dominance).
use Rattle.std.specs.Prelude.{ℕ, ◌+◌, ◌-◌, Bool, ◌&&◌, ◌==◌, List, map, take, drop, nat_le, nat_lt}
use Rattle.std.specs.List.{filter, flat_map}
use Rattle.std.specs.Option.{option_or}
use Rattle.eql_tuples.specs.declared.tuple.Tuple.{Tuple}
use Rattle.eql_tuples.specs.Sets.{each_once}

-- what stands on a level from one position to another
abbrev pub from_to : {A : Type 0} → List A → ℕ → ℕ → List A
from_to items first last = take (last + 1 - first) (drop first items)

-- the stretch of a tuple
abbrev pub stretch : {A : Type 0} → List A → Tuple → List A
stretch items t = from_to items t.first t.last

-- the stretch lies on a level of so many items, and has one item at least
abbrev pub fits_in : ℕ → Tuple → Bool
fits_in count t = nat_le t.first t.last && nat_lt t.last count

-- the right tuple begins where the left one ends
abbrev pub follows : Tuple → Tuple → Bool
follows left right = left.last + 1 == right.first

-- the stretch of two tuples that follow each other, with the mark of either
abbrev pub both : Tuple → Tuple → Tuple
both left right =
    record { first = left.first; last = right.last; mark = option_or left.mark right.mark }

-- the stretch of the left tuple, with the mark of either
abbrev pub left_with : Tuple → Tuple → Tuple
left_with left right =
    record { first = left.first; last = left.last; mark = option_or left.mark right.mark }

-- what a left tuple makes with each of these that it goes with
abbrev pub pairs_with : (Tuple → Tuple → Bool) → (Tuple → Tuple → Tuple) → List Tuple → Tuple → List Tuple
pairs_with goes make rights left = map (make left) (filter (goes left) rights)

-- the set of what any two tuples make that go with each other
abbrev pub joined : (Tuple → Tuple → Bool) → (Tuple → Tuple → Tuple) → List Tuple → List Tuple → List Tuple
joined goes make lefts rights = each_once (flat_map (pairs_with goes make rights) lefts)
