-- What sets of tuples and joins come to, each law said by itself.
use Rattle.std.specs.Prelude.{◌≡◌, ◌&&◌, Bool, List}
use Rattle.std.specs.List.{list_any}
use Rattle.std.specs.List.Sorted.{IsStrictlySortedBy}
use Rattle.std.specs.BTreeMap.{is_at}
use Rattle.eql_tuples.specs.declared.tuple.Tuple.{Tuple}
use Rattle.eql_tuples.specs.Sets.{tuple_cmp, has, each_once}
use Rattle.eql_tuples.specs.Tuples.{joined}

-- the set of some tuples has those and no others
abbrev pub SetsHaveTheirTuples : Type 0
SetsHaveTheirTuples = (ts : List Tuple) (t : Tuple) → has (each_once ts) t ≡ has ts t

-- a set is strictly in order, so no tuple stands twice
abbrev pub SetsAreInOrder : Type 0
SetsAreInOrder = (ts : List Tuple) → IsStrictlySortedBy tuple_cmp (each_once ts)

-- a tuple is among those that are joined exactly where some left and some right tuple that go with each
-- other make it
abbrev pub JoinsArePairs : Type 0
JoinsArePairs =
    (goes : Tuple → Tuple → Bool) (make : Tuple → Tuple → Tuple) (lefts rights : List Tuple) (t : Tuple) →
    has (joined goes make lefts rights) t
    ≡ list_any (λ l. list_any (λ r. goes l r && is_at (tuple_cmp t) (make l r)) rights) lefts
