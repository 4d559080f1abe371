-- How the program keeps a set of tuples.
use Rattle.std.specs.Prelude.{List, [], ◌∷◌}
use Rattle.std.specs.List.Sorted.{IsStrictlySortedBy}
use Rattle.std.specs.declared.cmp.Ordering.{Ordering}
use Rattle.eql_tuples.specs.declared.tuple.Tuple.{Tuple}
use Rattle.eql_tuples.specs.declared.kept.Kept.{Kept}
use Rattle.eql_tuples.specs.declared.kept.Kept.TheVariants.{Rising, Mixed}
use Rattle.eql_tuples.specs.Sets.{tuple_cmp}

-- the tuples that are kept
abbrev pub kept_tuples : Kept → List Tuple
kept_tuples (Rising list) = list
kept_tuples (Mixed set) = set.keys

-- a list that is kept is strictly in order
abbrev pub IsInOrder : Kept → Type 0
IsInOrder (Rising list) = IsStrictlySortedBy tuple_cmp list
IsInOrder (Mixed set) = Unit {0}

-- how a tuple compares with the last one of a list, or this where the list has none
abbrev pub order_behind : Tuple → Ordering → List Tuple → Ordering
order_behind t order [] = order
order_behind t order (x ∷ xs) = order_behind t (tuple_cmp t x) xs
