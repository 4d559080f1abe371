-- What the levels of a query that was resolved keep.
use Rattle.std.proofs.Common.{◌≡◌, ℕ, ◌<◌, Bool, true, false, cond, List, [], ◌∷◌, length, Option, Some, None, IsSome, IfSome, refl, arith}
use Rattle.std.specs.List.{slice_get, find}
use Rattle.std.specs.Option.{option_map, option_and_then, option_or, unwrap_or}
use Rattle.std.proofs.lemmas.Option.{slice_get_within}
use Rattle.db_config.specs.declared.attributes.AttributeDef.{AttributeDef}
use Rattle.db_config.specs.declared.parts.LevelDef.{LevelDef}
use Rattle.db_config.specs.declared.parts.AttributePlace.{AttributePlace}
use Rattle.db_config.specs.declared.parts.ConfigParts.{ConfigParts}
use Rattle.db_config.specs.Lookups.{attribute_at}
use Rattle.eql_resolve.specs.Asked.{AskedTerm, test, position, number, AskedQuery, terms, sequence, dominance, is_marked_term, term_place, first_place, level_of, marked_of, mark_place, shown_place, result_level}
use Rattle.eql_resolve.specs.Sound.{IsTermOf, AreTermsOf, IsQueryOf}

-- ---- places that are there

abbrev IsThere : ConfigParts → AttributePlace → Type 0
IsThere c place = IsSome (attribute_at place c.levels)

level_if : (levels : List LevelDef) (level : ℕ) (f : LevelDef → Option AttributeDef) (o : Option LevelDef) → slice_get levels level ≡ o → IsSome (option_and_then f o) → level < length levels
level_if levels level f None is there = cc
level_if levels level f (Some d) is there = slice_get_within levels level d is

-- an attribute that is there is one of a level that is there
pub level_there : (c : ConfigParts) (place : AttributePlace) → IsThere c place → place.level < length c.levels
level_there c place there =
    level_if c.levels place.level (λ d. slice_get d.attributes place.attribute) (slice_get c.levels place.level) refl there

term_there : (c : ConfigParts) (t : AskedTerm) → IsTermOf c t → IsThere c (term_place t)
term_there c (test marked place op labels) is = is
term_there c (position marked place upper lower wanted) is = is.1
term_there c (number marked upper lower compare count) is = is.0

first_there : (c : ConfigParts) (q : AskedQuery) → IsQueryOf c q → IsThere c (first_place q)
first_there c (terms []) is = let none : 0 < 0 = is.0 in absurd (omega arith)
first_there c (terms (t ∷ ts)) is = term_there c t is.1.0
first_there c (sequence left right) is = first_there c left is.0
first_there c (dominance left right) is = first_there c left is.0

-- the level of a query is there
pub level_within : (c : ConfigParts) (q : AskedQuery) → IsQueryOf c q → level_of q < length c.levels
level_within c q is = level_there c (first_place q) (first_there c q is)

found_there : (c : ConfigParts) (marked : Bool) (t : AskedTerm) (o : Option AskedTerm) → IsTermOf c t → IfSome (option_map term_place o) (IsThere c) → IfSome (option_map term_place (cond marked (Some t) o)) (IsThere c)
found_there c true t o is others = term_there c t is
found_there c false t o is others = others

marked_there : (c : ConfigParts) (ts : List AskedTerm) → AreTermsOf c ts → IfSome (marked_of ts) (IsThere c)
marked_there c [] are = tt
marked_there c (t ∷ ts) are =
    found_there c (is_marked_term t) t (find is_marked_term ts) are.0 (marked_there c ts are.1)

either_there : (c : ConfigParts) (left right : Option AttributePlace) → IfSome left (IsThere c) → IfSome right (IsThere c) → IfSome (option_or left right) (IsThere c)
either_there c (Some place) right is other = is
either_there c None right is other = other

mark_there : (c : ConfigParts) (q : AskedQuery) → IsQueryOf c q → IfSome (mark_place q) (IsThere c)
mark_there c (terms ts) is = marked_there c ts is.1
mark_there c (sequence left right) is =
    either_there c (mark_place left) (mark_place right) (mark_there c left is.0) (mark_there c right is.1)
mark_there c (dominance left right) is =
    either_there c (mark_place left) (mark_place right) (mark_there c left is.0) (mark_there c right is.1)

shown_if : (c : ConfigParts) (o : Option AttributePlace) (first : AttributePlace) → IfSome o (IsThere c) → IsThere c first → IsThere c (unwrap_or o first)
shown_if c (Some place) first is other = is
shown_if c None first is other = other

-- the attribute that the results show is there
pub shown_there : (c : ConfigParts) (q : AskedQuery) → IsQueryOf c q → IsThere c (shown_place q)
shown_there c q is =
    shown_if c (mark_place q) (first_place q) (mark_there c q is) (first_there c q is)

-- the level of the results is there
pub result_within : (c : ConfigParts) (q : AskedQuery) → IsQueryOf c q → result_level q < length c.levels
result_within c q is = level_there c (shown_place q) (shown_there c q is)
