-- What a query asks: the query with its names replaced by levels and attributes. (EMU-SDMS Manual,
-- "The EMU Query Language version 2".)
use Rattle.std.specs.Prelude.{◌≡◌, ℕ, Bool, true, ◌||◌, ◌==◌, List, [], ◌∷◌, Option, option_map, unwrap_or, find}
use Rattle.std.specs.List.{list_any, list_all}
use Rattle.std.specs.Option.{option_or}
use Rattle.db_config.specs.declared.parts.AttributePlace.{AttributePlace}
use Rattle.db_config.specs.Lookups.{place_of}
use Rattle.eql_syntax.specs.declared.query.Op.{Op}
use Rattle.eql_syntax.specs.declared.query.Compare.{Compare}
use Rattle.eql_syntax.specs.declared.query.Place.{Place}

-- A condition: the label of an attribute compared with the labels as they are written, or with the
-- texts of the patterns; where an item of a level stands below the items of an upper level; how many
-- items of a lower level an item has. A level that a condition is on is given by the attribute that
-- its name stands for.
pub data AskedTerm : Type 0 where
  test : (marked : Bool) (place : AttributePlace) (op : Op) (labels : List (List ℕ)) → AskedTerm
  position : (marked : Bool) (place : Place) (upper : ℕ) (lower : AttributePlace) (wanted : Bool) →
      AskedTerm
  number : (marked : Bool) (upper : AttributePlace) (lower : ℕ) (compare : Compare) (number : ℕ) →
      AskedTerm

-- conditions on one item, or two queries in a sequence or a dominance
pub data AskedQuery : Type 0 where
  terms : List AskedTerm → AskedQuery
  sequence : AskedQuery → AskedQuery → AskedQuery
  dominance : AskedQuery → AskedQuery → AskedQuery

-- a query, and the number of the level on which its results have their times, where there is one
pub record AskedParts : Type 0 where
  pub query : AskedQuery
  pub time : Option ℕ

-- ---- conditions

-- whether the condition has the mark
abbrev pub is_marked_term : AskedTerm → Bool
is_marked_term (test marked place op labels) = marked
is_marked_term (position marked place upper lower wanted) = marked
is_marked_term (number marked upper lower compare n) = marked

-- the attribute that a condition shows: that of its name, of a position's second name, of a number's
-- first name
abbrev pub term_place : AskedTerm → AttributePlace
term_place (test marked place op labels) = place
term_place (position marked place upper lower wanted) = lower
term_place (number marked upper lower compare n) = upper

-- the level that a condition is on
abbrev pub term_level : AskedTerm → ℕ
term_level term = (term_place term).level

-- whether a condition is on the level
abbrev pub is_on : ℕ → AskedTerm → Bool
is_on level term = term_level term == level

-- ---- queries

-- the attribute of the first condition of a conjunction
abbrev pub first_of : List AskedTerm → AttributePlace
first_of [] = place_of 0 0
first_of (term ∷ others) = term_place term

-- the attribute of the first condition of the leftmost conjunction
abbrev pub first_place : AskedQuery → AttributePlace
first_place (terms ts) = first_of ts
first_place (sequence left right) = first_place left
first_place (dominance left right) = first_place left

-- the level of a query: that of its conditions, that of both parts of a sequence, that of the left
-- part of a dominance
abbrev pub level_of : AskedQuery → ℕ
level_of q = (first_place q).level

-- whether a condition of the query has the mark
abbrev pub is_marked : AskedQuery → Bool
is_marked (terms ts) = list_any is_marked_term ts
is_marked (sequence left right) = is_marked left || is_marked right
is_marked (dominance left right) = is_marked left || is_marked right

-- the attribute of the marked condition of a conjunction
abbrev pub marked_of : List AskedTerm → Option AttributePlace
marked_of ts = option_map term_place (find is_marked_term ts)

-- the attribute of the marked condition, where there is one
abbrev pub mark_place : AskedQuery → Option AttributePlace
mark_place (terms ts) = marked_of ts
mark_place (sequence left right) = option_or (mark_place left) (mark_place right)
mark_place (dominance left right) = option_or (mark_place left) (mark_place right)

-- the attribute that the results show: that of the marked condition, else that of the first condition
-- of the leftmost conjunction
abbrev pub shown_place : AskedQuery → AttributePlace
shown_place q = unwrap_or (mark_place q) (first_place q)

-- the level of the results: they are the marked items, where the query has a mark
abbrev pub result_level : AskedQuery → ℕ
result_level q = (shown_place q).level

-- ---- levels that agree

-- all conditions of a conjunction are on one level, and so are the two parts of a sequence
abbrev pub AreOnOneLevel : AskedQuery → Type 0
AreOnOneLevel (terms ts) = list_all (is_on (level_of (terms ts))) ts ≡ true
AreOnOneLevel (sequence left right) =
    AreOnOneLevel left × AreOnOneLevel right × (level_of left ≡ level_of right)
AreOnOneLevel (dominance left right) = AreOnOneLevel left × AreOnOneLevel right
