-- A bundle of the database as plain data (EMU-SDMS Manual, "The emuDB format": bundles and `_annot.json`).
use Rattle.std.specs.Prelude.{ℕ, suc, Bool, List, [], ◌∷◌, length, nat_eq, sum_by, Option, Some, None, if◌then◌else◌, option_map}
use Rattle.std.specs.List.{list_any, position, flat_map}
use Rattle.std.specs.Option.{option_or}
use Rattle.emu_names.specs.declared.names.BundleKey.{BundleKey}
use Rattle.level_items.specs.Levels.{Level, ids_of}
use Rattle.link_graph.specs.declared.link.Link.{Link}
use Rattle.db_config.specs.declared.parts.LinkDef.{LinkDef}

-- what a bundle holds: its key, the name of its sound file, its rate in samples a second, its levels in
-- the order of the configuration, the link definitions that it was built under, and its links
pub record BundleParts : Type 0 where
  pub key : BundleKey
  pub annotates : List ℕ
  pub rate : ℕ
  pub levels : List Level
  pub definitions : List LinkDef
  pub links : List Link

-- the ids of the items of all levels
abbrev pub all_ids : List Level → List ℕ
all_ids levels = flat_map (λ l. ids_of l.items) levels

-- how many items the levels have together
abbrev pub item_count : List Level → ℕ
item_count levels = sum_by (λ l. length l.items) levels

-- whether an item of the level has this id
abbrev pub has_id : ℕ → Level → Bool
has_id id level = list_any (nat_eq id) (ids_of level.items)

-- the number of the first level with an item of this id, where the levels are numbered from `number` on
abbrev pub level_from : ℕ → ℕ → List Level → Option ℕ
level_from number id [] = None
level_from number id (level ∷ levels) =
    if has_id id level then Some number else level_from (suc number) id levels

-- the number of the level whose item has this id
abbrev pub level_of_id : List Level → ℕ → Option ℕ
level_of_id levels id = level_from 0 id levels

-- the position of the item with this id on a level
abbrev pub position_on : ℕ → Level → Option ℕ
position_on id level = position (λ i. nat_eq i.id.0 id) level.items

-- the level and the position of the item with this id, where the levels are numbered from `number` on
abbrev pub place_from : ℕ → ℕ → List Level → Option (ℕ × ℕ)
place_from number id [] = None
place_from number id (level ∷ levels) =
    option_or (option_map (λ at. (number, at)) (position_on id level)) (place_from (suc number) id levels)

-- the level and the position of the item with this id
abbrev pub place_of : List Level → ℕ → Option (ℕ × ℕ)
place_of levels id = place_from 0 id levels
