-- What a user can check of requeries (EMU-SDMS Manual, "The EMU Query Language (EQL)": `requery_hier` and
-- `requery_seq`).
use Rattle.std.specs.Prelude.{◌≡◌, ℕ, ◌+◌, ◌<◌, ◌≤◌, Bool, false, length, get_or, nat_eq, Some}
use Rattle.std.specs.List.{list_any}
use Rattle.level_items.specs.Levels.{items_at}
use Rattle.db_config.specs.declared.parts.ConfigParts.{ConfigParts}
use Rattle.bundle_state.specs.Bundle.{BundleParts}
use Rattle.eql_resolve.specs.Asked.{AskedParts, shown_place}
use Rattle.eql_rows.specs.declared.span.Span.{Span}
use Rattle.eql_model.specs.Rows.{rows}
use Rattle.requery.specs.declared.target.Target.TheVariants.{Level, Along}
use Rattle.requery.specs.Reach.{kin_at, reach}
use Rattle.requery.specs.Carried.{carried_rows}

-- results that are carried to the attribute that they show have the rows of the query
abbrev pub CarriedToItsOwnLevel : Type 0
CarriedToItsOwnLevel =
    (c : ConfigParts) (b : BundleParts) (a : AskedParts) →
    carried_rows c b (record { asked = a; target = Level (shown_place a.query) }) ≡ rows c b a

-- a result of so many items that is moved right, and then left as far, is the result again
abbrev pub MovedThereAndBack : Type 0
MovedThereAndBack =
    (b : BundleParts) (far count : ℕ) (span there : Span) →
    1 ≤ count → span.last + 1 ≡ span.first + count → span.last < length (items_at b.levels span.level) →
    reach b (Along (record { from_end = false; right = far; left = 0; length = count })) span ≡ Some there →
    reach b (Along (record { from_end = false; right = 0; left = far; length = count })) there ≡ Some span

-- the result of one item
abbrev pub alone : ℕ → ℕ → Span
alone level at = record { level = level; attribute = 0; first = at; last = at }

-- an item of a level is among the kin of an item of another one exactly where that one is among its own
abbrev pub KinIsMutual : Type 0
KinIsMutual =
    (b : BundleParts) (level other at place : ℕ) →
    at < length (items_at b.levels level) → place < length (items_at b.levels other) →
    list_any (nat_eq place) (kin_at b other (alone level at)) ≡ list_any (nat_eq at) (kin_at b level (alone other place))
