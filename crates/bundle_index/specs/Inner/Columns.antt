-- The columns that are kept of the levels of a bundle.
use Rattle.std.specs.Prelude.{◌≡◌, ◌≢◌, ℕ, ◌<◌, Bool, false, List, [], length, map, get_or, Some}
use Rattle.std.specs.List.{slice_get}
use Rattle.emu_names.specs.declared.kinds.LevelKind.TheVariants as kinds
use Rattle.level_items.specs.declared.items.Item.{Item}
use Rattle.level_items.specs.Levels.{Level, label_of}
use Rattle.level_items.specs.Times.{first_sample, last_sample}
use Rattle.bundle_state.specs.Bundle.{BundleParts}
use Rattle.hier_closure.specs.Inner.Linked.{AreLinkedIn}
use Rattle.hier_closure.specs.Inner.Stands.{AreStandsIn}
use Rattle.hier_closure.specs.declared.linked.LinkedLevels.{LinkedLevels}
use Rattle.hier_closure.specs.declared.stands.LevelStands.{LevelStands}
use Rattle.bundle_index.specs.declared.columns.LevelColumns.{LevelColumns}
use Rattle.bundle_index.specs.Inner.Numbered.{IsColumnOf}
use Rattle.bundle_index.specs.Inner.Keys.{AreKeysOf}

-- the first samples of the items, in order
abbrev pub starts_of : List Item → List ℕ
starts_of items = map (λ i. first_sample i.time) items

-- the last samples of the items, in order
abbrev pub ends_of : List Item → List ℕ
ends_of items = map (λ i. last_sample i.time) items

-- for each of the first n attributes there is the column of the items' labels
pub record AreLabelColumns (numbered : List (List ℕ)) (items : List Item) (n : ℕ)
    (columns : List (List ℕ)) : Type 0 where
  pub count : length columns ≡ n
  pub each : (attribute : ℕ) → attribute < n →
      IsColumnOf numbered (get_or columns attribute []) (map (label_of attribute) items)

-- the columns of one level: for each attribute that of its labels, and the times of a level with times
pub record AreColumnsOf (numbered : List (List ℕ)) (level : Level) (columns : LevelColumns) : Type 0 where
  pub labels : (attribute : ℕ) → attribute < level.attributes →
      IsColumnOf numbered (get_or columns.labels attribute []) (map (label_of attribute) level.items)
  pub starts : level.kind ≢ kinds.Item → columns.starts ≡ starts_of level.items
  pub ends : level.kind ≢ kinds.Item → columns.ends ≡ ends_of level.items

-- there are columns of each level that is not marked, and they are those of the level
pub record AreColumnsBut (numbered : List (List ℕ)) (levels : List Level) (marked : List Bool)
    (all : List LevelColumns) : Type 0 where
  pub there : (k : ℕ) (level : Level) → get_or marked k false ≡ false → slice_get levels k ≡ Some level → k < length all
  pub each : (k : ℕ) (level : Level) (columns : LevelColumns) → get_or marked k false ≡ false →
      slice_get levels k ≡ Some level → slice_get all k ≡ Some columns →
      AreColumnsOf numbered level columns

-- each level that is not marked is as it was; there may be other ones, which are marked
abbrev pub AreSameBut : List Bool → List Level → List Level → Type 0
AreSameBut marked old new = (k : ℕ) → get_or marked k false ≡ false → slice_get new k ≡ slice_get old k

-- there are as many levels as before, and each but one is as it was
pub record AreOtherwiseSame (old new : List Level) (changed : ℕ) : Type 0 where
  pub count : length new ≡ length old
  pub same : (k : ℕ) → k ≢ changed → slice_get new k ≡ slice_get old k

-- there are columns for each level, and they are those of the level
pub record AreColumnsFor (numbered : List (List ℕ)) (levels : List Level) (all : List LevelColumns) : Type 0 where
  pub count : length all ≡ length levels
  pub each : (k : ℕ) (level : Level) (columns : LevelColumns) →
      slice_get levels k ≡ Some level → slice_get all k ≡ Some columns →
      AreColumnsOf numbered level columns

-- there are columns for each level of the bundle, keys of the labels, rows of links that are those of its links, and
-- the places of the items that its items link to
pub record AreKeptOf (bundle : BundleParts) (numbered : List (List ℕ)) (keys : List ℕ) (all : List LevelColumns)
    (rows : List LinkedLevels) (places : List LevelStands) : Type 0 where
  pub columns : AreColumnsFor numbered bundle.levels all
  pub keys_of : AreKeysOf numbered keys
  pub linked : AreLinkedIn bundle rows
  pub stands : AreStandsIn bundle places
