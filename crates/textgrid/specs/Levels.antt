-- The annotation that a grid gives, or the first fault of its times. (Praat manual, "TextGrid file
-- formats"; EMU-SDMS Manual, "The emuDB format".)
use Rattle.std.specs.Prelude.{ℕ, ◌+◌, ◌-◌, nat_lt, List, [], ◌∷◌, length, if◌then◌else◌, Result, Ok, Err}
use Rattle.emu_names.specs.declared.kinds.LevelKind.TheVariants.{Segment, Event}
use Rattle.emu_names.specs.declared.kinds.LevelKind.{LevelKind}
use Rattle.level_items.specs.declared.times.Time.{Time}
use Rattle.level_items.specs.declared.times.Time.TheVariants.{Span, Point}
use Rattle.level_items.specs.declared.annot.AnnotItem.{AnnotItem}
use Rattle.level_items.specs.declared.annot.AnnotLevel.{AnnotLevel}
use Rattle.level_items.specs.declared.annot.Annot.{Annot}
use Rattle.sample_time.specs.declared.sample.TimeFault.{TimeFault}
use Rattle.sample_time.specs.declared.sample.TimeFault.TheVariants as times
use Rattle.sample_time.specs.Sample.{first_sample, nearest_sample}
use Rattle.textgrid.specs.declared.fault.GridFault.{GridFault}
use Rattle.textgrid.specs.declared.fault.GridFault.TheVariants.{NegativeTime, TimeTooLarge, EmptyInterval}
use Rattle.textgrid.specs.declared.grid.GridInterval.{GridInterval}
use Rattle.textgrid.specs.declared.grid.GridPoint.{GridPoint}
use Rattle.textgrid.specs.declared.grid.GridEntries.{GridEntries}
use Rattle.textgrid.specs.declared.grid.GridEntries.TheVariants.{Intervals, Points}
use Rattle.textgrid.specs.declared.grid.GridTier.{GridTier}
use Rattle.textgrid.specs.declared.grid.Grid.{Grid}

-- the fault of a time of an entry
abbrev pub time_fault : ℕ → ℕ → TimeFault → GridFault
time_fault tier entry times.NegativeTime = NegativeTime tier entry
time_fault tier entry times.TimeTooLarge = TimeTooLarge tier entry

-- the samples from one to another, which is not among them; the fault of the first one comes first
abbrev pub span_between : ℕ → ℕ → Result ℕ TimeFault → Result ℕ TimeFault → Result Time GridFault
span_between tier entry (Err fault) end = Err (time_fault tier entry fault)
span_between tier entry (Ok a) (Err fault) = Err (time_fault tier entry fault)
span_between tier entry (Ok a) (Ok b) = if nat_lt a b then Ok (Span a (b - a - 1)) else Err (EmptyInterval tier entry)

-- the samples of an interval: from the first one at or behind its begin to the last one before the
-- first one at or behind its end
abbrev pub span_of : ℕ → ℕ → ℕ → GridInterval → Result Time GridFault
span_of rate tier entry interval =
    span_between tier entry (first_sample interval.xmin rate) (first_sample interval.xmax rate)

-- the sample of a point
abbrev pub point_at : ℕ → ℕ → Result ℕ TimeFault → Result Time GridFault
point_at tier entry (Ok at) = Ok (Point at)
point_at tier entry (Err fault) = Err (time_fault tier entry fault)

-- the sample of a point, or the fault of its time
abbrev pub point_of : ℕ → ℕ → ℕ → GridPoint → Result Time GridFault
point_of rate tier entry point = point_at tier entry (nearest_sample point.time rate)

-- the item of an entry: its one label has the level's name
abbrev pub item_of : List ℕ → ℕ → Time → List ℕ → AnnotItem
item_of level id time label =
    record { id = record { 0 = id }; time = time; labels = record { name = level; value = label } ∷ [] }

-- an item and those behind it, or the first fault
abbrev pub with_item : Result Time GridFault → (Time → AnnotItem) → Result (List AnnotItem) GridFault
    → Result (List AnnotItem) GridFault
with_item (Err fault) made rest = Err fault
with_item (Ok time) made (Err fault) = Err fault
with_item (Ok time) made (Ok items) = Ok (made time ∷ items)

-- the items of intervals, of which n stand before in the tier, and `before` in the tiers before it
abbrev pub segments_from : ℕ → ℕ → ℕ → List ℕ → ℕ → List GridInterval → Result (List AnnotItem) GridFault
segments_from rate tier before level n [] = Ok []
segments_from rate tier before level n (i ∷ is) =
    with_item (span_of rate tier (n + 1) i) (λ time. item_of level (before + (n + 1)) time i.text)
    (segments_from rate tier before level (n + 1) is)

-- the same of points
abbrev pub events_from : ℕ → ℕ → ℕ → List ℕ → ℕ → List GridPoint → Result (List AnnotItem) GridFault
events_from rate tier before level n [] = Ok []
events_from rate tier before level n (p ∷ ps) =
    with_item (point_of rate tier (n + 1) p) (λ time. item_of level (before + (n + 1)) time p.mark)
    (events_from rate tier before level (n + 1) ps)

-- how many entries a tier has
abbrev pub entry_count : GridEntries → ℕ
entry_count (Intervals list) = length list
entry_count (Points list) = length list

-- a level with its items, or their first fault
abbrev pub level_with : List ℕ → LevelKind → Result (List AnnotItem) GridFault → Result AnnotLevel GridFault
level_with name kind (Ok items) = Ok (record { name = name; kind = kind; items = items })
level_with name kind (Err fault) = Err fault

-- the level of entries, by their class
abbrev pub level_in : ℕ → ℕ → ℕ → List ℕ → GridEntries → Result AnnotLevel GridFault
level_in rate number before name (Intervals list) = level_with name Segment
    (segments_from rate number before name 0 list)
level_in rate number before name (Points list) = level_with name Event (events_from rate number before name 0 list)

-- the level of a tier: SEGMENT of intervals, EVENT of points
abbrev pub level_of : ℕ → ℕ → ℕ → GridTier → Result AnnotLevel GridFault
level_of rate number before tier = level_in rate number before tier.name tier.entries

-- a level and those behind it, or the first fault
abbrev pub with_level : Result AnnotLevel GridFault → Result (List AnnotLevel) GridFault
    → Result (List AnnotLevel) GridFault
with_level (Err fault) rest = Err fault
with_level (Ok level) (Err fault) = Err fault
with_level (Ok level) (Ok levels) = Ok (level ∷ levels)

-- the levels of tiers, before which stand n tiers with `before` entries
abbrev pub levels_from : ℕ → ℕ → ℕ → List GridTier → Result (List AnnotLevel) GridFault
levels_from rate n before [] = Ok []
levels_from rate n before (t ∷ ts) =
    with_level (level_of rate (n + 1) before t) (levels_from rate (n + 1) (before + entry_count t.entries) ts)

-- the annotation with these levels: no sound file and no links
abbrev pub annot_with : ℕ → Result (List AnnotLevel) GridFault → Result Annot GridFault
annot_with rate (Err fault) = Err fault
annot_with rate (Ok levels) = Ok (record { annotates = []; rate = rate; levels = levels; links = [] })

-- the annotation of a grid
abbrev pub annot_of : ℕ → Grid → Result Annot GridFault
annot_of rate grid = annot_with rate (levels_from rate 0 0 grid.tiers)
