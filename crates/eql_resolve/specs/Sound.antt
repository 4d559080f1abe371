-- What a query that was resolved by a configuration keeps.
use Rattle.std.specs.Prelude.{◌≡◌, ◌<◌, true, List, [], ◌∷◌, length, IsSome}
use Rattle.db_config.specs.declared.parts.ConfigParts.{ConfigParts}
use Rattle.db_config.specs.Above.{is_above}
use Rattle.db_config.specs.Lookups.{attribute_at}
use Rattle.eql_resolve.specs.Asked.{AskedTerm, test, position, number, AskedQuery, terms, sequence, dominance, level_of}
use Rattle.eql_resolve.specs.Resolve.{are_joined}

-- the attribute and the levels of a condition are there, the upper one above the lower one
abbrev pub IsTermOf : ConfigParts → AskedTerm → Type 0
IsTermOf c (test marked place op labels) = IsSome (attribute_at place c.levels)
IsTermOf c (position marked place upper lower wanted) =
    (upper < length c.levels) × IsSome (attribute_at lower c.levels)
    × (is_above c.links upper lower.level ≡ true)
IsTermOf c (number marked upper lower compare count) =
    IsSome (attribute_at upper c.levels) × (lower < length c.levels)
    × (is_above c.links upper.level lower ≡ true)

-- the same of each condition
abbrev pub AreTermsOf : ConfigParts → List AskedTerm → Type 0
AreTermsOf c [] = Unit {0}
AreTermsOf c (term ∷ others) = IsTermOf c term × AreTermsOf c others

-- each condition is one of the configuration, each conjunction has one, and of the parts of a
-- dominance one is on a level above the other's
abbrev pub IsQueryOf : ConfigParts → AskedQuery → Type 0
IsQueryOf c (terms ts) = (0 < length ts) × AreTermsOf c ts
IsQueryOf c (sequence left right) = IsQueryOf c left × IsQueryOf c right
IsQueryOf c (dominance left right) =
    IsQueryOf c left × IsQueryOf c right × (are_joined c (level_of left) (level_of right) ≡ true)
