-- The text of levels with times as a TextGrid in the long text form, line by line. (Praat manual,
-- "TextGrid file formats".)
use Rattle.std.specs.Prelude.{ℕ, ◌+◌, ◌==◌, if◌then◌else◌, Bool, true, false, List, [], ◌∷◌, ◌++◌, length, codes}
use Rattle.std.specs.Fmt.{decimal}
use Rattle.level_items.specs.Times.{first_sample, last_sample}
use Rattle.sample_time.specs.Printed.{time_text}
use Rattle.grid_writing.specs.declared.entries.Entry.{Entry}
use Rattle.grid_writing.specs.declared.levels.TimeLevel.{TimeLevel}
use Rattle.grid_writing.specs.Filled.{entry_time, entry_label}

-- what leads, a value, and what stands behind the value up to the next one, in front of the rest
unfoldable pub line : List ℕ → List ℕ → List ℕ → List ℕ → List ℕ
line lead value end rest = lead ++ (value ++ (end ++ rest))

-- a text with each quote (the byte 34) twice
abbrev pub doubled : List ℕ → List ℕ
doubled [] = []
doubled (b ∷ bs) = if b == 34 then 34 ∷ 34 ∷ doubled bs else b ∷ doubled bs

-- an interval: it runs from the time of its first sample to that of the one behind its last sample
abbrev pub interval_lines : ℕ → ℕ → Entry → List ℕ → List ℕ
interval_lines rate number entry rest =
    line (codes "        intervals [") (decimal number) (codes "]:\n")
    (line (codes "            xmin = ") (time_text (first_sample (entry_time entry)) rate) (codes "\n")
    (line (codes "            xmax = ") (time_text (last_sample (entry_time entry) + 1) rate) (codes "\n")
    (line (codes "            text = \"") (doubled (entry_label entry)) (codes "\"\n")
    rest)))

-- a point: it stands at the time of its sample
abbrev pub point_lines : ℕ → ℕ → Entry → List ℕ → List ℕ
point_lines rate number entry rest =
    line (codes "        points [") (decimal number) (codes "]:\n")
    (line (codes "            number = ") (time_text (first_sample (entry_time entry)) rate) (codes "\n")
    (line (codes "            mark = \"") (doubled (entry_label entry)) (codes "\"\n")
    rest))

-- an entry of a tier of intervals or of points
abbrev pub entry_lines : Bool → ℕ → ℕ → Entry → List ℕ → List ℕ
entry_lines true rate number entry rest = interval_lines rate number entry rest
entry_lines false rate number entry rest = point_lines rate number entry rest

-- entries, of which so many stand before them in the tier
abbrev pub entries_lines : Bool → ℕ → ℕ → List Entry → List ℕ → List ℕ
entries_lines segments rate before [] rest = rest
entries_lines segments rate before (entry ∷ entries) rest =
    entry_lines segments rate (before + 1) entry
    (entries_lines segments rate (before + 1) entries rest)

-- the class of a tier
abbrev pub class_text : Bool → List ℕ
class_text true = codes "IntervalTier"
class_text false = codes "TextTier"

-- what leads to the number of its entries
abbrev pub size_lead : Bool → List ℕ
size_lead true = codes "        intervals: size = "
size_lead false = codes "        points: size = "

-- a tier with its entries
abbrev pub tier_lines : ℕ → ℕ → ℕ → TimeLevel → List ℕ → List ℕ
tier_lines rate end number level rest =
    line (codes "    item [") (decimal number) (codes "]:\n")
    (line (codes "        class = \"") (class_text level.segments) (codes "\"\n")
    (line (codes "        name = \"") (doubled level.name) (codes "\"\n")
    (line (codes "        xmin = ") (time_text 0 rate) (codes "\n")
    (line (codes "        xmax = ") (time_text end rate) (codes "\n")
    (line (size_lead level.segments) (decimal (length level.entries)) (codes "\n")
    (entries_lines level.segments rate 0 level.entries rest))))))

-- tiers, of which so many stand before them
abbrev pub tiers_lines : ℕ → ℕ → ℕ → List TimeLevel → List ℕ → List ℕ
tiers_lines rate end before [] rest = rest
tiers_lines rate end before (level ∷ levels) rest =
    tier_lines rate end (before + 1) level (tiers_lines rate end (before + 1) levels rest)

-- what stands before the first time
abbrev pub head_text : List ℕ
head_text = codes "File type = \"ooTextFile\"\nObject class = \"TextGrid\"\n\nxmin = "

-- The text of a grid of these levels.
unfoldable pub grid_text : ℕ → ℕ → List TimeLevel → List ℕ
grid_text rate end levels =
    line head_text (time_text 0 rate) (codes "\n")
    (line (codes "xmax = ") (time_text end rate) (codes "\ntiers? <exists>\n")
    (line (codes "size = ") (decimal (length levels)) (codes "\nitem []:\n")
    (tiers_lines rate end 0 levels [])))
