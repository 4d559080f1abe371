-- A query is marked exactly where there is an attribute of a marked condition.
use Rattle.std.proofs.Common.{◌≡◌, Bool, true, false, cond, ◌||◌, List, [], ◌∷◌, Option, Some, None, refl}
use Rattle.std.specs.List.{list_any, find}
use Rattle.std.specs.Option.{option_map, option_or, is_some}
use Rattle.db_config.specs.declared.parts.AttributePlace.{AttributePlace}
use Rattle.eql_resolve.specs.Asked.{AskedTerm, AskedQuery, terms, sequence, dominance, is_marked_term, term_place, marked_of, mark_place, is_marked}

found_some : (marked : Bool) (t : AskedTerm) (o : Option AskedTerm) (others : Bool) → is_some (option_map term_place o) ≡ others → is_some (option_map term_place (cond marked (Some t) o)) ≡ (marked || others)
found_some true t o others is = refl
found_some false t o others is = is

marked_some : (ts : List AskedTerm) → is_some (marked_of ts) ≡ list_any is_marked_term ts
marked_some [] = refl
marked_some (t ∷ ts) = found_some (is_marked_term t) t (find is_marked_term ts) _ (marked_some ts)

either_some : (one two : Option AttributePlace) (left right : Bool) → is_some one ≡ left → is_some two ≡ right → is_some (option_or one two) ≡ (left || right)
either_some (Some place) two true right is other = refl
either_some (Some place) two false right is other = cc
either_some None two false right is other = other
either_some None two true right is other = cc

pub mark_some : (q : AskedQuery) → is_some (mark_place q) ≡ is_marked q
mark_some (terms ts) = marked_some ts
mark_some (sequence left right) =
    either_some (mark_place left) (mark_place right) (is_marked left) (is_marked right) (mark_some left) (mark_some right)
mark_some (dominance left right) =
    either_some (mark_place left) (mark_place right) (is_marked left) (is_marked right) (mark_some left) (mark_some right)
