-- Laws over the definitions: what runs have in common.
use Rattle.std.specs.Prelude.{◌≡◌, ℕ, ◌≤◌, false, List, [], ◌∷◌, length, map, Bool}
use Rattle.db_config.specs.declared.parts.ConfigParts.{ConfigParts}
use Rattle.edit_undo.specs.edit_rules.declared.acts.Entry.{Entry}
use Rattle.session_core.specs.declared.event.Event.{Event}
use Rattle.requery.specs.eql_rows.declared.row.Row.{Row}
use Rattle.edit_undo.specs.edit_rules.Effects.{IsLegal}
use Rattle.session_core.specs.Steps.{start, steps}
use Rattle.session_core.specs.Worlds.{Occurrence, untroubled, World, run, opening_world, AllFit, disk_failures, lines_done}
use Rattle.session_core.specs.Sizes.{head_size, entry_size}
use Rattle.session_core.specs.Legal.{Legal, replies_in}
use Rattle.emu_names.specs.declared.limits.TheConstants.{HISTORY_EDITS}
use Rattle.emu_names.specs.Count.{RoseBy}
use Rattle.session_core.specs.Example.{add_line, replies_with, no_memory_reply, example_row, example_config, example_events, example_lines, adding, example_history, example_replies, removing}

-- the replies of a run are legal beside the history that it leaves
abbrev pub IsLegalWorld : ConfigParts → List Entry → World → Bool → ℕ → ℕ → Type 0
IsLegalWorld c opening w store before now =
    Legal c opening (lines_done w) (replies_in w.turns) w.state.entries store before now

-- every run is legal, whatever events fit, whenever memory runs out, and whatever the store and the disk refuse
abbrev pub EveryRunIsLegal : Type 0
EveryRunIsLegal =
    (c : ConfigParts) (opening : List Entry) (occurrences : List Occurrence) (store : Bool) (before now : ℕ)
    → IsLegal c opening → length opening ≤ HISTORY_EDITS → AllFit store (opening_world c opening) occurrences
    → RoseBy (disk_failures occurrences) before now
    → IsLegalWorld c opening (run (opening_world c opening) occurrences) store before now

-- an event that takes its step
abbrev pub taken : Event → Occurrence
taken e = record { event = e; trouble = untroubled }

-- the replies of the core's steps are legal beside the history that they leave, where memory does not run out and
-- there is no store
abbrev pub EveryCoreRunIsLegal : Type 0
EveryCoreRunIsLegal = (c : ConfigParts) (opening : List Entry) (events : List Event)
    → IsLegal c opening → length opening ≤ HISTORY_EDITS → AllFit false (opening_world c opening) (map taken events)
    → Legal c opening (lines_done (run (opening_world c opening) (map taken events)))
    (steps (start c opening) events).0 (steps (start c opening) events).1.entries false 0 0

-- The example's events fit, its replies and its history are these, and they make a legal run.
abbrev pub ExampleFits : Type 0
ExampleFits = AllFit false (opening_world example_config []) (map taken example_events)

-- the replies of the core's steps are those of the example
abbrev pub ExampleReplies : Type 0
ExampleReplies = (steps (start example_config []) example_events).0 ≡ example_replies

-- and they leave its history
abbrev pub ExampleHistory : Type 0
ExampleHistory = (steps (start example_config []) example_events).1.entries ≡ example_history

-- so the example is a legal run
abbrev pub ExampleIsLegal : Type 0
ExampleIsLegal = Legal example_config [] example_lines example_replies example_history false 0 0

-- Which replies to the example's lines are no legal run. The query stands behind its session's own
-- edit, so that it is never answered over the state before it.
abbrev pub StaleIsNotLegal : Type 0
StaleIsNotLegal = (history : List Entry) (rows : List Row) (store : Bool) (before now : ℕ)
    → Legal example_config [] example_lines (replies_with 0 rows) history store before now → ⊥

-- beside the history with the edit there is one right answer
abbrev pub AnswerIsExact : Type 0
AnswerIsExact = (rows : List Row) (store : Bool) (before now : ℕ)
    → Legal example_config [] example_lines (replies_with 1 rows) example_history store before now
    → rows ≡ example_row ∷ []

-- an edit that was accepted is in the history
abbrev pub AcceptedIsRecorded : Type 0
AcceptedIsRecorded = (store : Bool) (before now : ℕ)
    → Legal example_config [] example_lines example_replies [] store before now → ⊥

-- an edit that is in the history was accepted
abbrev pub RecordedIsAccepted : Type 0
RecordedIsAccepted = (store : Bool) (before now : ℕ)
    → Legal example_config [] (add_line ∷ []) (no_memory_reply ∷ []) example_history store before now → ⊥

-- The lengths of the example's codes, counted by hand: a head, the entry with the annotation, and one that takes an
-- item out.
abbrev pub ExampleSizes : Type 0
ExampleSizes =
    (head_size example_config ≡ 64)
    × (entry_size adding ≡ 149)
    × (entry_size removing ≡ 26)
