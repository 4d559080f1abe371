-- What is read of a text that was written: levels of the same names, kinds and order, with the same times
-- and labels.
use Rattle.std.specs.Prelude.{◌≡◌, ℕ, Bool, true, false, List, [], ◌∷◌, All, Ok}
use Rattle.emu_names.specs.declared.kinds.LevelKind.{LevelKind}
use Rattle.emu_names.specs.declared.kinds.LevelKind.TheVariants as kinds
use Rattle.level_items.specs.declared.annot.AnnotLabel.{AnnotLabel}
use Rattle.level_items.specs.declared.annot.AnnotItem.{AnnotItem}
use Rattle.level_items.specs.declared.annot.AnnotLevel.{AnnotLevel}
use Rattle.level_items.specs.declared.annot.Annot.{Annot}
use Rattle.level_items.specs.declared.items.Item.{Item}
use Rattle.level_items.specs.Levels.{Level}
use Rattle.db_config.specs.declared.parts.ConfigParts.{ConfigParts}
use Rattle.bundle_state.specs.Bundle.{BundleParts}
use Rattle.textgrid.specs.declared.grid.Grid.{Grid}
use Rattle.textgrid.specs.Grids.{grid_of}
use Rattle.textgrid.specs.Levels.{annot_of}
use Rattle.grid_writing.specs.declared.entries.Entry.{Entry}
use Rattle.grid_writing.specs.declared.levels.TimeLevel.{TimeLevel}
use Rattle.grid_writing.specs.Filled.{entry_time, entry_label, filled, IsFilled}
use Rattle.grid_writing.specs.Levels.{end_of}
use Rattle.grid_writing.specs.Written.{written_levels}

-- the text of the first label of an item that was read
abbrev pub label_read : List AnnotLabel → List ℕ
label_read [] = []
label_read (label ∷ labels) = label.value

-- items with the times and labels of these entries
abbrev pub AreItemsOf : List Entry → List AnnotItem → Type 0
AreItemsOf [] [] = Unit {0}
AreItemsOf [] (item ∷ items) = ⊥
AreItemsOf (entry ∷ entries) [] = ⊥
AreItemsOf (entry ∷ entries) (item ∷ items) =
    (item.time ≡ entry_time entry) × (label_read item.labels ≡ entry_label entry)
    × AreItemsOf entries items

-- the kind of a level with segments, and of one with events
abbrev pub kind_of : Bool → LevelKind
kind_of true = kinds.Segment
kind_of false = kinds.Event

-- levels of the same names, kinds and order, with the times and labels of their entries
abbrev pub AreLevelsOf : List TimeLevel → List AnnotLevel → Type 0
AreLevelsOf [] [] = Unit {0}
AreLevelsOf [] (read ∷ more) = ⊥
AreLevelsOf (level ∷ levels) [] = ⊥
AreLevelsOf (level ∷ levels) (read ∷ more) =
    (read.name ≡ level.name) × (read.kind ≡ kind_of level.segments)
    × AreItemsOf level.entries read.items × AreLevelsOf levels more

-- the filled list of a SEGMENT level is its items with a filler for each longest run that no item holds
abbrev pub IsFilledList : LevelKind → ℕ → List Item → Type 0
IsFilledList kinds.Segment end items = IsFilled end items (filled end items)
IsFilledList kinds.Event end items = Unit {0}
IsFilledList kinds.Item end items = Unit {0}

-- the same of a level
abbrev pub IsFilledLevel : ℕ → Level → Type 0
IsFilledLevel end level = IsFilledList level.kind end level.items

-- The text of a bundle is read as a grid, which gives at the bundle's rate an annotation whose levels are
-- those that were written; without its fillers each has its level's own times and first labels.
pub record ComesBack (config : ConfigParts) (bundle : BundleParts) (text : List ℕ) : Type 0 where
  pub grid : Grid
  pub annot : Annot
  pub read : grid_of text ≡ Ok grid
  pub gives : annot_of bundle.rate grid ≡ Ok annot
  pub same : AreLevelsOf (written_levels config bundle) annot.levels
  pub filled : All (IsFilledLevel (end_of bundle.levels)) bundle.levels
