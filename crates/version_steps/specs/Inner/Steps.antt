-- What edits make of the bundle of their key, and which levels of it they may change.
use Rattle.std.specs.Prelude.{◌≡◌, ◌<◌, ℕ, Bool, true, false, List, [], ◌∷◌, length, get_or, Option, Result}
use Rattle.std.specs.Option.{option_map_or}
use Rattle.emu_names.specs.declared.kinds.ItemId.{ItemId}
use Rattle.emu_names.specs.declared.names.BundleKey.{BundleKey}
use Rattle.emu_names.specs.declared.rules.Broken.{Broken}
use Rattle.db_config.specs.declared.parts.ConfigParts.{ConfigParts}
use Rattle.db_config.specs.declared.parts.LevelDef.{LevelDef}
use Rattle.db_config.specs.Lookups.{level_named}
use Rattle.level_items.specs.Levels.{Level}
use Rattle.bundle_state.specs.Bundle.{BundleParts, place_of}
use Rattle.bundle_index.specs.Inner.Columns.{AreSameBut}
use Rattle.bundle_edits.specs.declared.edit.Edit.{Edit}
use Rattle.bundle_edits.specs.declared.edit.Edit.TheVariants as edits
use Rattle.bundle_edits.specs.Edits.{key_of}
use Rattle.bundle_edits.specs.Changes.{changed}
use Rattle.edit_rules.specs.declared.acts.Breach.{Breach}
use Rattle.edit_rules.specs.Database.{DatabaseParts, bundle_with, counts_of}
use Rattle.edit_rules.specs.Turns.{changed_in_turn}
use Rattle.edit_rules.specs.Inner.Turns.{beside}

-- what edits make one after another of the bundle of a key in a database
abbrev pub changed_in : DatabaseParts → BundleKey → List Edit → Result (Option BundleParts) Breach
changed_in database key es =
    changed_in_turn database.config (beside (counts_of database.bundles) (bundle_with key database.bundles)) 1
    (bundle_with key database.bundles) es

-- what one edit makes of the bundle of its key in a database
abbrev pub changed_alone : DatabaseParts → Edit → Result (Option BundleParts) Broken
changed_alone database edit =
    changed database.config (counts_of database.bundles) (bundle_with (key_of edit) database.bundles) edit

-- the number of the level on which an item stands, or the number of levels where it stands on none
abbrev pub level_with : List Level → ItemId → ℕ
level_with levels id = option_map_or (λ place. place.0) (place_of levels id.0) (length levels)

-- the number of the level of this name, or the number of levels where there is none
abbrev pub level_called : List LevelDef → List ℕ → ℕ
level_called defs name = option_map_or (λ number. number) (level_named name defs) (length defs)

-- the number of the one level whose items an edit may change in a bundle, or the number of levels where it
-- changes none
abbrev pub touched : ConfigParts → List Level → Edit → ℕ
touched config levels (edits.AddBundle key annot) = length levels
touched config levels (edits.DropBundle key) = length levels
touched config levels (edits.AddItem key level position item) = level_called config.levels level
touched config levels (edits.RemoveItem key id) = level_with levels id
touched config levels (edits.SetLabel key id attribute label) = level_with levels id
touched config levels (edits.SetSegment key id start dur) = level_with levels id
touched config levels (edits.MoveBoundary key id start) = level_with levels id
touched config levels (edits.SetPoint key id at) = level_with levels id
touched config levels (edits.Split key id new_id start) = level_with levels id
touched config levels (edits.Merge key id) = level_with levels id
touched config levels (edits.AddLink key from to) = length levels
touched config levels (edits.RemoveLink key from to) = length levels
touched config levels (edits.LinkTimes key upper lower) = length levels
touched config levels (edits.PutItem key level position item) = level_called config.levels level
touched config levels (edits.PutLabel key id attribute label) = level_with levels id
touched config levels (edits.PutLink key from to place) = length levels

-- a level of a bundle is marked in a row
abbrev pub IsMarked : List Level → List Bool → ℕ → Type 0
IsMarked levels row level = level < length levels → get_or row level false ≡ true

-- the levels that these edits may change in a bundle with these levels are marked in a row. A level is sought for
-- each edit in the bundle before all of them: what an item finds on its way there was marked before
abbrev pub AreMarked : ConfigParts → List Level → List Edit → List Bool → Type 0
AreMarked config levels [] row = Unit {0}
AreMarked config levels (e ∷ es) row = IsMarked levels row (touched config levels e) × AreMarked config levels es row

-- a bundle's levels are as they were, but for those that these edits may change
abbrev pub AreTouchedBy : ConfigParts → List Level → List Edit → List Level → Type 0
AreTouchedBy config old es new = (row : List Bool) → AreMarked config old es row → AreSameBut row old new
