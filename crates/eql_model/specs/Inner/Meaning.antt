-- Words of contracts and loops beside `specs/Meaning.antt`; no promise of the program rests on them.
use Rattle.std.specs.Prelude.{◌≡◌, ℕ, Bool, true, false, List, map, Result, Ok, Err}
use Rattle.db_config.specs.declared.parts.ConfigParts.{ConfigParts}
use Rattle.bundle_state.specs.Bundle.{BundleParts}
use Rattle.eql_resolve.specs.Asked.{AskedTerm, AskedQuery, term_level}
use Rattle.eql_resolve.specs.Sound.{IsTermOf}
use Rattle.eql_tuples.specs.declared.tuple.Tuple.{Tuple}
use Rattle.eql_tuples.specs.declared.faults.MatchFault.{MatchFault}
use Rattle.eql_tuples.specs.declared.faults.MatchFault.TheVariants.{TooManyTuples, Memory}
use Rattle.eql_model.specs.Meaning.{meets, tuples, has_too_many}
use Rattle.level_items.specs.Levels.{items_at}

-- for each item of a level whether it meets a condition
abbrev pub met_row : ConfigParts → BundleParts → ℕ → AskedTerm → List Bool
met_row c b level t = map (meets c b t) (items_at b.levels level)

-- a condition is one of the configuration, and on the level
abbrev pub IsTermOn : ConfigParts → ℕ → AskedTerm → Type 0
IsTermOn c level t = IsTermOf c t × (term_level t ≡ level)

-- an answer is the set of the tuples, and no part of the query has too many; or it is that some part has
abbrev pub Finds : Result (List Tuple) MatchFault → ConfigParts → BundleParts → AskedQuery → Type 0
Finds (Ok found) c b q = (found ≡ tuples c b q) × (has_too_many c b q ≡ false)
Finds (Err TooManyTuples) c b q = has_too_many c b q ≡ true
Finds (Err Memory) c b q = Unit {0}
