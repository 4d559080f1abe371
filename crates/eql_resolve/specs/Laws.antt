-- What a query that was resolved comes to.
use Rattle.std.specs.Prelude.{◌≡◌, ◌<◌, length, IsSome, is_some}
use Rattle.db_config.specs.declared.parts.ConfigParts.{ConfigParts}
use Rattle.db_config.specs.Lookups.{attribute_at}
use Rattle.eql_resolve.specs.Asked.{AskedQuery, level_of, is_marked, mark_place, shown_place, result_level}
use Rattle.eql_resolve.specs.Sound.{IsQueryOf}

-- the attribute that the results show is one of the configuration
abbrev pub ShownIsThere : Type 0
ShownIsThere =
    (c : ConfigParts) (q : AskedQuery) →
    IsQueryOf c q → IsSome (attribute_at (shown_place q) c.levels)

-- the level of a query and that of its results are levels of the configuration
abbrev pub LevelsAreThere : Type 0
LevelsAreThere =
    (c : ConfigParts) (q : AskedQuery) →
    IsQueryOf c q → (level_of q < length c.levels) × (result_level q < length c.levels)

-- a query is marked exactly where a marked condition is found in it
abbrev pub MarksAreFound : Type 0
MarksAreFound = (q : AskedQuery) → is_some (mark_place q) ≡ is_marked q
