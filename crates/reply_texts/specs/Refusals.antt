-- What a refusal says, as members of an object: its word, and the id, the name, the place or the counted thing that goes
-- with it. The word stands at the name `key`: `rule` in a reply, `cause` in the last line of a command.
use Rattle.std.specs.Prelude.{ℕ, List, [], ◌∷◌, Option, Some, None, codes}
use Rattle.serde_json.specs.Data.{string}
use Rattle.json_view.specs.declared.faults.Shape.{Shape}
use Rattle.json_view.specs.Words as wanted_words
use Rattle.emu_names.specs.declared.rules.Broken.{Broken}
use Rattle.emu_names.specs.declared.rules.Broken.TheVariants as rules
use Rattle.emu_names.specs.Rule.{word_of, counted_of}
use Rattle.config_json.specs.Faults.{what_word}
use Rattle.config_json.specs.declared.faults.ConfigFault.{ConfigFault}
use Rattle.config_json.specs.declared.faults.ConfigFault.TheVariants as config_faults
use Rattle.textgrid.specs.Words as grid_words
use Rattle.textgrid.specs.declared.fault.GridFault.{GridFault}
use Rattle.textgrid.specs.declared.fault.GridFault.TheVariants as grid_faults
use Rattle.eql_syntax.specs.declared.query.QueryFault.{QueryFault}
use Rattle.eql_syntax.specs.declared.query.QueryFault.TheVariants as queries
use Rattle.eql_resolve.specs.declared.faults.PrepareFault.{PrepareFault}
use Rattle.eql_resolve.specs.declared.faults.PrepareFault.TheVariants as prepares
use Rattle.eql_resolve.specs.declared.faults.AskFault.{AskFault}
use Rattle.eql_resolve.specs.declared.faults.AskFault.TheVariants as asks
use Rattle.session_core.specs.segment_list.Texts.{whole}
use Rattle.session_core.specs.declared.line.Refusal.{Refusal}
use Rattle.session_core.specs.declared.line.Refusal.TheVariants as refusals
use Rattle.reply_texts.specs.Members.{Named}

-- a number at a name
abbrev pub number_at : List ℕ → ℕ → Named
number_at name n = record { name = name; value = whole n }

-- a text at a name
abbrev pub text_at : List ℕ → List ℕ → Named
text_at name text = record { name = name; value = string text }

-- a word that says no more
abbrev pub plain : List ℕ → List ℕ → List Named
plain key word = text_at key word ∷ []

-- a word with a place of a text or of a file, or with the number of a pattern
abbrev pub at_place : List ℕ → List ℕ → ℕ → List Named
at_place key word at = text_at key word ∷ number_at (codes "at") at ∷ []

-- a word with a place of a text and with what is wanted there
abbrev pub at_what : List ℕ → List ℕ → ℕ → List ℕ → List Named
at_what key word at what = text_at key word ∷ number_at (codes "at") at ∷ text_at (codes "what") what ∷ []

-- a word with a tier of a TextGrid and an entry of it, both counted from 1
abbrev pub in_tier : List ℕ → List ℕ → ℕ → ℕ → List Named
in_tier key word tier entry =
    text_at key word ∷ number_at (codes "tier") tier ∷ number_at (codes "entry") entry ∷ []

-- a word with an item's id
abbrev pub of_item : List ℕ → List ℕ → ℕ → List Named
of_item key word id = text_at key word ∷ number_at (codes "id") id ∷ []

-- a word with the name of a level, of an attribute or of another thing
abbrev pub of_name : List ℕ → List ℕ → List ℕ → List Named
of_name key word name = text_at key word ∷ text_at (codes "name") name ∷ []

-- a word with what there are too many of
abbrev pub of_what : List ℕ → List ℕ → List ℕ → List Named
of_what key word what = text_at key word ∷ text_at (codes "what") what ∷ []

-- a word with the path of a part and the form that was wanted of it
abbrev pub of_part : List ℕ → List ℕ → List ℕ → List ℕ → List Named
of_part key word path wanted =
    text_at key word ∷ text_at (codes "path") path ∷ text_at (codes "wanted") wanted ∷ []

-- a rule that an edit breaks
abbrev pub rule_members : List ℕ → Broken → List Named
rule_members key rules.BundleTaken = plain key (word_of rules.BundleTaken)
rule_members key rules.NoBundle = plain key (word_of rules.NoBundle)
rule_members key (rules.TooMany what) = of_what key (word_of (rules.TooMany what)) (counted_of what)
rule_members key rules.RateOut = plain key (word_of rules.RateOut)
rule_members key (rules.NoLevel name) = of_name key (word_of (rules.NoLevel name)) name
rule_members key (rules.TwoLevels name) = of_name key (word_of (rules.TwoLevels name)) name
rule_members key (rules.LevelKind name) = of_name key (word_of (rules.LevelKind name)) name
rule_members key (rules.NoAttribute name) = of_name key (word_of (rules.NoAttribute name)) name
rule_members key (rules.TwoLabels name) = of_name key (word_of (rules.TwoLabels name)) name
rule_members key rules.LabelTooLong = plain key (word_of rules.LabelTooLong)
rule_members key rules.IllegalLabel = plain key (word_of rules.IllegalLabel)
rule_members key (rules.IdTaken id) = of_item key (word_of (rules.IdTaken id)) id.0
rule_members key (rules.NoItem id) = of_item key (word_of (rules.NoItem id)) id.0
rule_members key rules.PositionOut = plain key (word_of rules.PositionOut)
rule_members key rules.TimeKind = plain key (word_of rules.TimeKind)
rule_members key rules.TimeOut = plain key (word_of rules.TimeOut)
rule_members key (rules.Overlap id) = of_item key (word_of (rules.Overlap id)) id.0
rule_members key (rules.NotRising id) = of_item key (word_of (rules.NotRising id)) id.0
rule_members key (rules.NoNeighbour id) = of_item key (word_of (rules.NoNeighbour id)) id.0
rule_members key rules.CutOut = plain key (word_of rules.CutOut)
rule_members key rules.NoLinkDefinition = plain key (word_of rules.NoLinkDefinition)
rule_members key rules.LinkExists = plain key (word_of rules.LinkExists)
rule_members key rules.NoLink = plain key (word_of rules.NoLink)
rule_members key (rules.OneParent id) = of_item key (word_of (rules.OneParent id)) id.0
rule_members key (rules.OneChild id) = of_item key (word_of (rules.OneChild id)) id.0
rule_members key (rules.DoubleName name) = of_name key (word_of (rules.DoubleName name)) name
rule_members key (rules.UnknownLevel name) = of_name key (word_of (rules.UnknownLevel name)) name
rule_members key rules.DoubleLink = plain key (word_of rules.DoubleLink)
rule_members key rules.LevelCycle = plain key (word_of rules.LevelCycle)
rule_members key rules.NothingToLink = plain key (word_of rules.NothingToLink)

-- the same with the place of the edit, which is counted from 1, where it is told
abbrev pub placed : Option ℕ → List Named → List Named
placed None rest = rest
placed (Some place) rest = number_at (codes "place") place ∷ rest

-- the fault of a TextGrid: its place in the file or in its text, or a tier and an entry
abbrev pub grid_members : List ℕ → GridFault → List Named
grid_members key (grid_faults.BadEncoding at) = at_place key (codes "BadEncoding") at
grid_members key (grid_faults.BadText at) = at_place key (codes "BadText") at
grid_members key (grid_faults.TooManyDigits at) = at_place key (codes "TooManyDigits") at
grid_members key (grid_faults.Expected at what) = at_what key (codes "Expected") at (grid_words.word_of what)
grid_members key (grid_faults.NegativeTime tier entry) = in_tier key (codes "NegativeTime") tier entry
grid_members key (grid_faults.TimeTooLarge tier entry) = in_tier key (codes "TimeTooLarge") tier entry
grid_members key (grid_faults.EmptyInterval tier entry) = in_tier key (codes "EmptyInterval") tier entry
grid_members key grid_faults.Memory = plain key (codes "Memory")

-- the fault of a query's text: its place counts the bytes of the text from 0
abbrev pub query_members : List ℕ → QueryFault → List Named
query_members key queries.TextTooLong = plain key (codes "TextTooLong")
query_members key (queries.Syntax at) = at_place key (codes "Syntax") at
query_members key (queries.TooDeep at) = at_place key (codes "TooDeep") at
query_members key (queries.TwoMarks at) = at_place key (codes "TwoMarks") at
query_members key queries.Memory = plain key (codes "Memory")

-- the fault of a query's text or of one of its patterns, which are counted from 0
abbrev pub prepare_members : List ℕ → PrepareFault → List Named
prepare_members key (prepares.Query fault) = query_members key fault
prepare_members key (prepares.BadPattern k) = at_place key (codes "BadPattern") k
prepare_members key (prepares.PatternTooLarge k) = at_place key (codes "PatternTooLarge") k
prepare_members key prepares.Memory = plain key (codes "Memory")

-- the fault of a query under a configuration
abbrev pub ask_members : List ℕ → AskFault → List Named
ask_members key (asks.UnknownName name) = of_name key (codes "UnknownName") name
ask_members key asks.MixedLevels = plain key (codes "MixedLevels")
ask_members key asks.SequenceLevels = plain key (codes "SequenceLevels")
ask_members key asks.NoPath = plain key (codes "NoPath")
ask_members key asks.AmbiguousTime = plain key (codes "AmbiguousTime")
ask_members key asks.BadTimeLevel = plain key (codes "BadTimeLevel")
ask_members key asks.Memory = plain key (codes "Memory")

-- a refusal of a request
abbrev pub refusal_members : List ℕ → Refusal → List Named
refusal_members key (refusals.Rule rule place) = placed place (rule_members key rule)
refusal_members key (refusals.Grid fault) = grid_members key fault
refusal_members key (refusals.Prepare fault) = prepare_members key fault
refusal_members key (refusals.Resolve fault) = ask_members key fault
refusal_members key refusals.TooManyTuples = plain key (codes "TooManyTuples")
refusal_members key refusals.NoLook = plain key (codes "NoLook")
refusal_members key refusals.LookOpen = plain key (codes "LookOpen")
refusal_members key refusals.NotAccepted = plain key (codes "NotAccepted")
refusal_members key refusals.NoInverse = plain key (codes "NoInverse")
refusal_members key refusals.TooManyEdits = plain key (codes "TooManyEdits")
refusal_members key refusals.HistoryFull = plain key (codes "HistoryFull")
refusal_members key refusals.StoreFull = plain key (codes "StoreFull")
refusal_members key refusals.Disk = plain key (codes "Disk")
refusal_members key refusals.Memory = plain key (codes "Memory")

-- a part of another form than was wanted, with its path and that form
abbrev pub shape_members : List ℕ → Shape → List Named
shape_members key shape = of_part key (codes "Shape") shape.path (wanted_words.word_of shape.wanted)

-- the fault of a configuration
abbrev pub config_members : List ℕ → ConfigFault → List Named
config_members key (config_faults.Shape shape) = shape_members key shape
config_members key (config_faults.TooMany what) = of_what key (codes "TooMany") (what_word what)
config_members key (config_faults.DoubleName name) = of_name key (codes "DoubleName") name
config_members key (config_faults.UnknownLevel name) = of_name key (codes "UnknownLevel") name
config_members key config_faults.DoubleLink = plain key (codes "DoubleLink")
config_members key config_faults.LevelCycle = plain key (codes "LevelCycle")
config_members key config_faults.Memory = plain key (codes "Memory")
