-- The entries of a tier: the items of a level, and on an interval tier fillers between them, since such a
-- tier leaves no time out. (Praat manual, "TextGrid file formats"; EMU-SDMS Manual, "The emuDB format".)
use Rattle.std.specs.Prelude.{◌≡◌, ℕ, ◌+◌, ◌-◌, nat_lt, if◌then◌else◌, Bool, true, false, List, [], ◌∷◌, ◌++◌, map}
use Rattle.level_items.specs.declared.times.Time.{Time}
use Rattle.level_items.specs.declared.times.Time.TheVariants.{Span}
use Rattle.level_items.specs.declared.items.Item.{Item}
use Rattle.level_items.specs.Times.{first_sample, last_sample}
use Rattle.grid_writing.specs.declared.entries.Entry.{Entry}
use Rattle.grid_writing.specs.declared.entries.Entry.TheVariants.{Held, Filler}

-- the label of the first attribute, empty where there is none
abbrev pub first_label : List (List ℕ) → List ℕ
first_label [] = []
first_label (label ∷ labels) = label

-- when an entry is
abbrev pub entry_time : Entry → Time
entry_time (Held time label) = time
entry_time (Filler start dur) = Span start dur

-- its label; that of a filler is empty
abbrev pub entry_label : Entry → List ℕ
entry_label (Held time label) = label
entry_label (Filler start dur) = []

-- the entry of an item: its time and its first label
abbrev pub entry_of : Item → Entry
entry_of item = Held item.time (first_label item.labels)

-- a filler from one sample up to another, which it does not hold, where there is a sample between them
abbrev pub gap : ℕ → ℕ → List Entry
gap from to = if nat_lt from to then Filler from (to - from - 1) ∷ [] else []

-- the items with fillers before, between and behind them, from a sample up to the end
abbrev pub filled_from : ℕ → ℕ → List Item → List Entry
filled_from end from [] = gap from end
filled_from end from (item ∷ items) =
    gap from (first_sample item.time)
    ++ (entry_of item ∷ filled_from end (last_sample item.time + 1) items)

-- The filled list of a SEGMENT level, up to the end of the grid.
unfoldable pub filled : ℕ → List Item → List Entry
filled end items = filled_from end 0 items

-- What the filled list is, said without going along it.

-- the entries that are no fillers
abbrev pub without_fillers : List Entry → List Entry
without_fillers [] = []
without_fillers (Held time label ∷ entries) = Held time label ∷ without_fillers entries
without_fillers (Filler start dur ∷ entries) = without_fillers entries

-- from this sample on each entry begins where the one before it ended, and the last one ends with the end
abbrev pub LeavesNoneOut : ℕ → ℕ → List Entry → Type 0
LeavesNoneOut end from [] = from ≡ end
LeavesNoneOut end from (entry ∷ entries) =
    (first_sample (entry_time entry) ≡ from)
    × LeavesNoneOut end (last_sample (entry_time entry) + 1) entries

-- the list begins with a filler
abbrev pub begins_filler : List Entry → Bool
begins_filler [] = false
begins_filler (Held time label ∷ entries) = false
begins_filler (Filler start dur ∷ entries) = true

-- no two fillers stand side by side, so each is as long as it can be
abbrev pub AreLongest : List Entry → Type 0
AreLongest [] = Unit {0}
AreLongest (Held time label ∷ entries) = AreLongest entries
AreLongest (Filler start dur ∷ entries) = (begins_filler entries ≡ false) × AreLongest entries

-- The entries are a level's items with a filler for each longest run of samples below the end that no item
-- holds: together they leave no sample out and take none twice; without the fillers they are the items'
-- times and first labels; and no two fillers stand side by side.
pub record IsFilled (end : ℕ) (items : List Item) (entries : List Entry) : Type 0 where
  pub whole : LeavesNoneOut end 0 entries
  pub own : without_fillers entries ≡ map entry_of items
  pub longest : AreLongest entries
