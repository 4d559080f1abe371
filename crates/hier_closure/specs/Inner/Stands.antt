-- Where the items stand that the items of a bundle link to.
use Rattle.std.specs.Prelude.{◌≡◌, ℕ, Bool, suc, ◌+◌, ◌-◌, ◌<◌, ◌≤◌, List, length, map, take, drop, get_or, Option, Some, unwrap_or}
use Rattle.std.specs.List.{slice_get}
use Rattle.emu_names.specs.declared.kinds.ItemId.{ItemId}
use Rattle.link_graph.specs.Link.{children_of}
use Rattle.bundle_state.specs.Bundle.{BundleParts}
use Rattle.bundle_state.specs.Valid.{KeepsBundleRules}
use Rattle.hier_closure.specs.Dominance.{ids_at}
use Rattle.hier_closure.specs.Inner.Ranks.{AreMadeAtItem}
use Rattle.hier_closure.specs.declared.stands.LevelStands.{LevelStands}
use Rattle.hier_closure.specs.declared.stands.Stand.{Stand}

-- an id as that of an item
abbrev pub item_id : ℕ → ItemId
item_id n = record { 0 = n }

-- the id of the item that stands there, if one does
abbrev pub id_at : BundleParts → Stand → Option ℕ
id_at bundle stand = slice_get (ids_at bundle.levels stand.level) stand.position

-- the same, where one does
abbrev pub stand_id : BundleParts → Stand → ItemId
stand_id bundle stand = item_id (unwrap_or (id_at bundle stand) 0)

-- at these places stand the items that the item of this id links to
abbrev pub AreChildren : BundleParts → ℕ → List Stand → Type 0
AreChildren bundle id stands =
    map (id_at bundle) stands ≡ map (λ child. Some child.0) (children_of (item_id id) bundle.links)

-- such places were put last
pub record AddsChildren (bundle : BundleParts) (id : ℕ) (old new : List Stand) : Type 0 where
  pub more : length old ≤ length new
  pub same : take (length old) new ≡ old
  pub added : AreChildren bundle id (drop (length old) new)

-- where the places of an item begin
abbrev pub start_at : LevelStands → ℕ → ℕ
start_at level i = get_or level.starts i 0

-- the places of an item
abbrev pub cut : LevelStands → ℕ → List Stand
cut level i = take (start_at level (i + 1) - start_at level i) (drop (start_at level i) level.stands)

-- the places of an item are among all
pub record IsCut (level : LevelStands) (i : ℕ) : Type 0 where
  pub within : i + 1 < length level.starts
  pub order : start_at level i ≤ start_at level (i + 1)
  pub end : start_at level (i + 1) ≤ length level.stands

-- the places are those of the items that the items of these ids link to, one after another
pub record AreStandsOf (bundle : BundleParts) (ids : List ℕ) (level : LevelStands) : Type 0 where
  pub long : length level.starts ≡ suc (length ids)
  pub last : start_at level (length ids) ≡ length level.stands
  pub cuts : (i : ℕ) → i < length ids → IsCut level i
  pub each : (i : ℕ) → i < length ids → AreChildren bundle (get_or ids i 0) (cut level i)

-- the bundle keeps its rules, and for each level these are the places of the items that its items link to
pub record AreStandsIn (bundle : BundleParts) (all : List LevelStands) : Type 0 where
  pub rules : KeepsBundleRules bundle
  pub count : length all ≡ length bundle.levels
  pub each : (level : ℕ) (one : LevelStands) → slice_get all level ≡ Some one →
      AreStandsOf bundle (ids_at bundle.levels level) one

-- an item stands there, and the rows of its level are there, where it is above the lower one
pub record IsReady (bundle : BundleParts) (lower : ℕ) (table : List (List (List Bool))) (stand : Stand) : Type 0 where
  pub there : id_at bundle stand ≡ Some (stand_id bundle stand).0
  pub made : AreMadeAtItem bundle lower table (stand_id bundle stand).0
