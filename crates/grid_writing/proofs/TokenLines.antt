-- The lines of a grid as tokens, and what of times and counts lets them be read.
use Rattle.std.specs.Prelude.{ℕ, ◌+◌, ◌<◌, ◌≤◌, Bool, true, false, List, [], ◌∷◌, ◌++◌, length, codes}
use Rattle.std.specs.Fmt.{decimal}
use Rattle.emu_names.specs.declared.limits.TheConstants.{GRID_ENTRIES}
use Rattle.level_items.specs.declared.times.Time.{Time}
use Rattle.level_items.specs.declared.times.Time.TheVariants.{Span, Point}
use Rattle.level_items.specs.Times.{first_sample, last_sample}
use Rattle.sample_time.specs.Printed.{time_text}
use Rattle.grid_writing.specs.declared.entries.Entry.{Entry}
use Rattle.grid_writing.specs.declared.levels.TimeLevel.{TimeLevel}
use Rattle.grid_writing.specs.Filled.{entry_time, entry_label}
use Rattle.grid_writing.specs.Layout.{class_text}
use Rattle.grid_writing.proofs.Tokens.{Token, word, number, text, exists, Line}

-- a line that says what a name is
abbrev pub says : ℕ → List ℕ → Token → Line
says indent name token = record { indent = indent; tokens = word name ∷ word (codes "=") ∷ token ∷ [] }

-- the number of a part
abbrev pub bracketed : ℕ → List ℕ
bracketed k = 91 ∷ (decimal k ++ (93 ∷ 58 ∷ []))

-- a line that begins a part
abbrev pub begins_part : ℕ → List ℕ → ℕ → Line
begins_part indent name k = record { indent = indent; tokens = word name ∷ word (bracketed k) ∷ [] }

-- an interval in front of other lines
abbrev pub interval_onto : ℕ → ℕ → Entry → List Line → List Line
interval_onto rate k e rest =
    begins_part 8 (codes "intervals") k
    ∷ says 12 (codes "xmin") (number (time_text (first_sample (entry_time e)) rate))
    ∷ says 12 (codes "xmax") (number (time_text (last_sample (entry_time e) + 1) rate))
    ∷ says 12 (codes "text") (text (entry_label e)) ∷ rest

-- a point
abbrev pub point_onto : ℕ → ℕ → Entry → List Line → List Line
point_onto rate k e rest =
    begins_part 8 (codes "points") k
    ∷ says 12 (codes "number") (number (time_text (first_sample (entry_time e)) rate))
    ∷ says 12 (codes "mark") (text (entry_label e)) ∷ rest

-- entries, of which k stand before
abbrev pub entries_onto : ℕ → Bool → ℕ → List Entry → List Line → List Line
entries_onto rate segments k [] rest = rest
entries_onto rate true k (e ∷ es) rest = interval_onto rate (k + 1) e (entries_onto rate true (k + 1) es rest)
entries_onto rate false k (e ∷ es) rest = point_onto rate (k + 1) e (entries_onto rate false (k + 1) es rest)

-- the word for the entries of a tier
abbrev pub entry_word : Bool → List ℕ
entry_word true = codes "intervals:"
entry_word false = codes "points:"

-- the line of the number of entries
abbrev pub size_line : ℕ → Bool → ℕ → Line
size_line indent segments n = record {
  indent = indent;
  tokens = word (entry_word segments) ∷ word (codes "size") ∷ word (codes "=") ∷ number (decimal n) ∷ [];
}

-- tiers, of which k stand before
abbrev pub tiers_onto : ℕ → ℕ → ℕ → List TimeLevel → List Line
tiers_onto rate end k [] = []
tiers_onto rate end k (l ∷ ls) =
    begins_part 4 (codes "item") (k + 1)
    ∷ says 8 (codes "class") (text (class_text l.segments))
    ∷ says 8 (codes "name") (text l.name)
    ∷ says 8 (codes "xmin") (number (time_text 0 rate))
    ∷ says 8 (codes "xmax") (number (time_text end rate))
    ∷ size_line 8 l.segments (length l.entries)
    ∷ entries_onto rate l.segments 0 l.entries (tiers_onto rate end (k + 1) ls)

-- the lines of a TextGrid
abbrev pub grid_lines : ℕ → ℕ → List TimeLevel → List Line
grid_lines rate end levels =
    record { indent = 0; tokens = word (codes "File") ∷ word (codes "type") ∷ word (codes "=") ∷ text (codes "ooTextFile") ∷ [] }
    ∷ record { indent = 0; tokens = word (codes "Object") ∷ word (codes "class") ∷ word (codes "=") ∷ text (codes "TextGrid") ∷ [] }
    ∷ record { indent = 0; tokens = [] }
    ∷ says 0 (codes "xmin") (number (time_text 0 rate))
    ∷ says 0 (codes "xmax") (number (time_text end rate))
    ∷ record { indent = 0; tokens = word (codes "tiers?") ∷ exists ∷ [] }
    ∷ says 0 (codes "size") (number (decimal (length levels)))
    ∷ record { indent = 0; tokens = word (codes "item") ∷ word (codes "[]:") ∷ [] }
    ∷ tiers_onto rate end 0 levels

-- the time is a span, or a point, and over before the end
abbrev pub IsTimeIn : Bool → ℕ → Time → Type 0
IsTimeIn true end (Span start dur) = start + dur < end
IsTimeIn false end (Point at) = at < end
IsTimeIn segments end time = ⊥

-- each entry has such a time
abbrev pub AreTimesIn : Bool → ℕ → List Entry → Type 0
AreTimesIn segments end [] = Unit {0}
AreTimesIn segments end (e ∷ es) = IsTimeIn segments end (entry_time e) × AreTimesIn segments end es

-- levels that can be written: their times end by the end, and they have at most 65,536 entries
abbrev pub CanBeWritten : ℕ → List TimeLevel → Type 0
CanBeWritten end [] = Unit {0}
CanBeWritten end (l ∷ ls) = AreTimesIn l.segments end l.entries × (length l.entries ≤ GRID_ENTRIES) × CanBeWritten end ls
