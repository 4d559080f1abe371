-- What of a bundle is written: its levels with times, in the order of the configuration, up to the end of
-- the grid. (EMU-SDMS Manual, "The emuDB format": levels of the types SEGMENT and EVENT.)
use Rattle.std.specs.Prelude.{ℕ, ◌+◌, max, Bool, true, false, List, [], ◌∷◌, map}
use Rattle.emu_names.specs.declared.kinds.LevelKind.{LevelKind}
use Rattle.emu_names.specs.declared.kinds.LevelKind.TheVariants as kinds
use Rattle.level_items.specs.declared.items.Item.{Item}
use Rattle.level_items.specs.Times.{last_sample}
use Rattle.level_items.specs.Levels.{Level}
use Rattle.db_config.specs.declared.parts.LevelDef.{LevelDef}
use Rattle.grid_writing.specs.declared.entries.Entry.{Entry}
use Rattle.grid_writing.specs.declared.levels.TimeLevel.{TimeLevel}
use Rattle.grid_writing.specs.Filled.{entry_of, filled}

-- one past the last sample of any of these items, 0 where there is none
abbrev pub reach : List Item → ℕ
reach [] = 0
reach (item ∷ items) = max (last_sample item.time + 1) (reach items)

-- the same of a level with times, and 0 of an ITEM level
abbrev pub reach_of : LevelKind → List Item → ℕ
reach_of kinds.Item items = 0
reach_of kinds.Segment items = reach items
reach_of kinds.Event items = reach items

-- The end of the grid: one past the last sample of any item of a level with times, and 1 where there is
-- none. A point is its own last sample.
abbrev pub end_of : List Level → ℕ
end_of [] = 1
end_of (level ∷ levels) = max (reach_of level.kind level.items) (end_of levels)

-- the entries of a level: the filled list of a SEGMENT level, and the items of an EVENT level
abbrev pub entries_of : LevelKind → ℕ → List Item → List Entry
entries_of kinds.Segment end items = filled end items
entries_of kinds.Event end items = map entry_of items
entries_of kinds.Item end items = []

-- a level of this kind has segments
abbrev pub is_segments : LevelKind → Bool
is_segments kinds.Segment = true
is_segments kinds.Event = false
is_segments kinds.Item = false

-- a level as it is written, under its name
abbrev pub time_level : ℕ → List ℕ → Level → TimeLevel
time_level end name level = record {
  name = name;
  segments = is_segments level.kind;
  entries = entries_of level.kind end level.items;
}

-- a level in front of others, where its kind has times
abbrev pub where_timed : LevelKind → TimeLevel → List TimeLevel → List TimeLevel
where_timed kinds.Item level levels = levels
where_timed kinds.Segment level levels = level ∷ levels
where_timed kinds.Event level levels = level ∷ levels

-- the levels with times, under the names that the configuration gives them
abbrev pub time_levels : ℕ → List LevelDef → List Level → List TimeLevel
time_levels end [] levels = []
time_levels end (def ∷ defs) [] = []
time_levels end (def ∷ defs) (level ∷ levels) =
    where_timed level.kind (time_level end def.name level) (time_levels end defs levels)
