-- What a change of a bundle keeps.
use Rattle.std.specs.Prelude.{◌≡◌, ◌<◌, ℕ, Some, Result, Ok, IsTrue}
use Rattle.std.specs.List.{slice_get}
use Rattle.emu_names.specs.declared.limits.TheConstants.{BUNDLE_ITEMS}
use Rattle.emu_names.specs.declared.rules.Broken.{Broken}
use Rattle.level_items.specs.declared.items.Item.{Item}
use Rattle.level_items.specs.Levels.{Level, are_labels_for}
use Rattle.db_config.specs.declared.parts.ConfigParts.{ConfigParts}
use Rattle.bundle_state.specs.Bundle.{BundleParts, item_count}
use Rattle.bundle_state.specs.Built.{FitsConfig}
use Rattle.bundle_state.specs.Valid.{KeepsBundleRules}

-- a bundle that fits a configuration fits it also when it is changed
abbrev pub KeepsForm : (BundleParts → Result BundleParts Broken) → Type 0
KeepsForm change =
    (config : ConfigParts) (before after : BundleParts) →
    FitsConfig config before → change before ≡ Ok after → FitsConfig config after

-- a bundle that keeps the rules of bundles keeps them also when it is changed
abbrev pub KeepsRules : (BundleParts → Result BundleParts Broken) → Type 0
KeepsRules change =
    (before after : BundleParts) →
    KeepsBundleRules before → change before ≡ Ok after → KeepsBundleRules after

-- the level of this number is there, the item has one label for each of its attributes, and the bundle has
-- fewer than 65,536 items
pub record HasRoomFor (number : ℕ) (item : Item) (bundle : BundleParts) : Type 0 where
  pub level : Level
  pub there : slice_get bundle.levels number ≡ Some level
  pub labels : IsTrue (are_labels_for level.attributes item.labels)
  pub room : item_count bundle.levels < BUNDLE_ITEMS
