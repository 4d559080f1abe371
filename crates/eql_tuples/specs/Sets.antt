-- Sets of tuples: lists in order in which no tuple stands twice.
use Rattle.std.specs.Prelude.{Bool, List, [], ◌∷◌, length, nat_lt}
use Rattle.std.specs.List.{list_any}
use Rattle.std.specs.Option.{option_cmp}
use Rattle.std.specs.declared.cmp.Ordering.{Ordering}
use Rattle.std.specs.Ordering.{nat_cmp, ordering_then}
use Rattle.std.specs.BTreeMap.{is_at}
use Rattle.std.specs.BTreeSet.{insert_key}
use Rattle.emu_names.specs.declared.limits.TheConstants.{TUPLES}
use Rattle.eql_tuples.specs.declared.tuple.Tuple.{Tuple}

-- the order of tuples: by the first position, then by the last one, then by the mark, where no mark
-- comes before any
abbrev pub tuple_cmp : Tuple → Tuple → Ordering
tuple_cmp a b =
    ordering_then (nat_cmp a.first b.first)
    (ordering_then (nat_cmp a.last b.last) (option_cmp nat_cmp a.mark b.mark))

-- whether a tuple is among these
abbrev pub has : List Tuple → Tuple → Bool
has tuples t = list_any (is_at (tuple_cmp t)) tuples

-- a set with some more tuples, each put at its place in the order unless it is there
abbrev pub put_all : List Tuple → List Tuple → List Tuple
put_all set [] = set
put_all set (t ∷ ts) = put_all (insert_key tuple_cmp set t) ts

-- the set of these tuples: in order, each once
abbrev pub each_once : List Tuple → List Tuple
each_once tuples = put_all [] tuples

-- a set has over 1,000,000 tuples
abbrev pub is_over : List Tuple → Bool
is_over set = nat_lt TUPLES (length set)
