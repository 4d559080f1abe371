-- Words of contracts and loops beside `specs/Sets.antt`; no promise of the program rests on them.
use Rattle.std.specs.Prelude.{◌≡◌, true, false, Result, Ok, Err, List}
use Rattle.eql_tuples.specs.declared.tuple.Tuple.{Tuple}
use Rattle.eql_tuples.specs.declared.faults.MatchFault.{MatchFault}
use Rattle.eql_tuples.specs.declared.faults.MatchFault.TheVariants.{TooManyTuples, Memory}
use Rattle.eql_tuples.specs.Sets.{is_over}

-- an answer is the set, which has at most 1,000,000 tuples; or it is that it has more
abbrev pub GivesSet : Result (List Tuple) MatchFault → List Tuple → Type 0
GivesSet (Ok made) set = (made ≡ set) × (is_over set ≡ false)
GivesSet (Err TooManyTuples) set = is_over set ≡ true
GivesSet (Err Memory) set = Unit {0}
