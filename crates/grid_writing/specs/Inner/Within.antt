-- Words of loops and contracts on samples and their ends; no promise of the program rests on them.
use Rattle.std.specs.Prelude.{ℕ, ◌+◌, ◌<◌, ◌≤◌, List, [], ◌∷◌, All}
use Rattle.emu_names.specs.declared.limits.TheConstants.{SAMPLES}
use Rattle.level_items.specs.declared.items.Item.{Item}
use Rattle.level_items.specs.Times.{first_sample, last_sample}
use Rattle.grid_writing.specs.declared.entries.Entry.{Entry}
use Rattle.grid_writing.specs.declared.levels.TimeLevel.{TimeLevel}
use Rattle.grid_writing.specs.Filled.{entry_time}

-- the item is over before the last sample that an item may have
abbrev pub IsItemInTime : Item → Type 0
IsItemInTime item = last_sample item.time < SAMPLES

-- each item begins at the sample or behind it, and behind the one before it, and ends before the end
abbrev pub AreWithin : ℕ → ℕ → List Item → Type 0
AreWithin end from [] = from ≤ end
AreWithin end from (item ∷ items) =
    (from ≤ first_sample item.time) × AreWithin end (last_sample item.time + 1) items

-- the same of an entry
abbrev pub IsEntryInTime : Entry → Type 0
IsEntryInTime entry = last_sample (entry_time entry) < SAMPLES

-- and of all entries of a level
abbrev pub IsLevelInTime : TimeLevel → Type 0
IsLevelInTime level = All IsEntryInTime level.entries
