-- What a query means in one bundle: a set of tuples (EMU-SDMS Manual, "The EMU Query Language (EQL)":
-- simple queries, conjunction, sequence, dominance, functions).
use Rattle.std.specs.Prelude.{◌≡◌, ℕ, Bool, true, ◌||◌, List, [], All, length, map, Some, None, if◌then◌else◌}
use Rattle.std.specs.List.{enumerate_from, filter, list_all, list_any, slice_get}
use Rattle.std.specs.Option.{option_map_or}
use Rattle.level_items.specs.declared.items.Item.{Item}
use Rattle.level_items.specs.Levels.{Level, items_at, label_of}
use Rattle.db_config.specs.declared.parts.ConfigParts.{ConfigParts}
use Rattle.bundle_state.specs.Bundle.{BundleParts}
use Rattle.hier_closure.specs.Dominance.{ids_at}
use Rattle.eql_resolve.specs.Asked.{AskedTerm, test, position, number, AskedQuery, terms, sequence, dominance, is_marked_term, level_of}
use Rattle.eql_tuples.specs.declared.tuple.Tuple.{Tuple}
use Rattle.eql_tuples.specs.Sets.{is_over}
use Rattle.eql_tuples.specs.Tuples.{fits_in, follows, both, left_with, joined}
use Rattle.eql_model.specs.Covers.{one_covers}
use Rattle.eql_model.specs.Labels.{passes}
use Rattle.eql_model.specs.Positions.{has_place, has_number}

-- an item meets a condition
abbrev pub meets : ConfigParts → BundleParts → AskedTerm → Item → Bool
meets c b (test marked place op labels) item = passes c place op labels (label_of place.attribute item)
meets c b (position marked place upper lower wanted) item =
    has_place b.links (ids_at b.levels upper) (ids_at b.levels lower.level) place wanted item.id.0
meets c b (number marked upper lower compare count) item =
    has_number b.links (ids_at b.levels lower) compare count item.id.0

-- tuples lie on a level
abbrev pub LieOn : List Level → ℕ → List Tuple → Type 0
LieOn levels n ts = All (λ t. fits_in (length (items_at levels n)) t ≡ true) ts

-- an item meets all conditions
abbrev pub meets_all : ConfigParts → BundleParts → List AskedTerm → Item → Bool
meets_all c b ts item = list_all (λ t. meets c b t item) ts

-- the tuple of the item at a position, which is marked or is not
abbrev pub single : Bool → ℕ → Tuple
single marked at = record { first = at; last = at; mark = if marked then Some at else None }

-- the tuples of these items, of which the first has this position, that meet all conditions
abbrev pub singles : ConfigParts → BundleParts → List AskedTerm → ℕ → List Item → List Tuple
singles c b ts first items =
    map (λ at. single (list_any is_marked_term ts) at.0)
    (filter (λ at. meets_all c b ts at.1) (enumerate_from first items))

-- The tuples of a query in a bundle, in order, each once. A conjunction has one for each item that
-- meets all conditions; a sequence one for each two tuples of which the right one begins where the left
-- one ends; a dominance the left one of each two tuples of which one covers the other.
abbrev pub tuples : ConfigParts → BundleParts → AskedQuery → List Tuple
tuples c b (terms ts) = singles c b ts 0 (items_at b.levels (level_of (terms ts)))
tuples c b (sequence p q) = joined follows both (tuples c b p) (tuples c b q)
tuples c b (dominance p q) =
    joined (one_covers b.links (ids_at b.levels (level_of p)) (ids_at b.levels (level_of q))) left_with
    (tuples c b p) (tuples c b q)

-- the query or some part of it has over 1,000,000 tuples
abbrev pub has_too_many : ConfigParts → BundleParts → AskedQuery → Bool
has_too_many c b (terms ts) = is_over (tuples c b (terms ts))
has_too_many c b (sequence p q) =
    has_too_many c b p || has_too_many c b q || is_over (tuples c b (sequence p q))
has_too_many c b (dominance p q) =
    has_too_many c b p || has_too_many c b q || is_over (tuples c b (dominance p q))
