-- The reply to a request over a state.
use Rattle.std.specs.Prelude.{ℕ, Bool, true, false, List, Option, Some, None, Result, Ok, Err, take}
use Rattle.db_config.specs.declared.parts.ConfigParts.{ConfigParts}
use Rattle.textgrid.specs.declared.fault.GridFault.{GridFault}
use Rattle.textgrid.specs.declared.fault.GridFault.TheVariants as faults
use Rattle.edit_undo.specs.edit_rules.declared.acts.Act.{Act}
use Rattle.edit_undo.specs.edit_rules.declared.acts.Breach.{Breach}
use Rattle.edit_undo.specs.edit_rules.declared.acts.Entry.{Entry}
use Rattle.edit_undo.specs.edit_rules.Database.{DatabaseParts}
use Rattle.edit_undo.specs.edit_rules.Effects.{database_after}
use Rattle.eql_resolve.specs.declared.faults.AskFault.{AskFault}
use Rattle.eql_resolve.specs.declared.faults.PrepareFault.{PrepareFault}
use Rattle.eql_resolve.specs.Prepared.{PreparedParts}
use Rattle.eql_resolve.specs.Asked.{AskedParts}
use Rattle.eql_resolve.specs.Resolve.{asked}
use Rattle.requery.specs.eql_rows.declared.row.Row.{Row}
use Rattle.requery.specs.eql_model.Rows.{segment_list, any_has_too_many}
use Rattle.requery.specs.declared.target.Requery.{Requery}
use Rattle.requery.specs.Target.{ReachedParts}
use Rattle.requery.specs.Asks.{reached}
use Rattle.requery.specs.Carried.{carried_list}
use Rattle.session_core.specs.declared.line.Ask.{Ask}
use Rattle.session_core.specs.declared.line.Answer.{Answer}
use Rattle.session_core.specs.declared.line.Answer.TheVariants.{Segments, Refused}
use Rattle.session_core.specs.declared.line.Command.{Command}
use Rattle.session_core.specs.declared.line.Command.TheVariants as commands
use Rattle.session_core.specs.declared.line.Refusal.{Refusal}
use Rattle.session_core.specs.declared.line.Refusal.TheVariants as refusals
use Rattle.session_core.specs.declared.line.Line.{Line}
use Rattle.session_core.specs.declared.line.Reply.{Reply}
use Rattle.session_core.specs.Queries.{is_memory_of}

-- want of memory, which is an answer to every request
abbrev pub memory : Answer
memory = Refused refusals.Memory

-- The answer to a query.

-- the fault of a text or of its patterns refuses the query; want of memory, of which the flag speaks, is
-- answered as such
abbrev pub prepare_answer : PrepareFault → Bool → Answer
prepare_answer fault true = memory
prepare_answer fault false = Refused (refusals.Prepare fault)

-- the answer is these rows, unless some part of the query has too many tuples
abbrev pub listed_answer : List Row → Bool → Answer
listed_answer rows true = Refused refusals.TooManyTuples
listed_answer rows false = Segments rows

-- a query without a meaning under the configuration is refused for the first fault of its names; any other
-- one is answered by the rows of one bundle after another, in the order of their keys
abbrev pub resolved_answer : DatabaseParts → Result AskedParts AskFault → Answer
resolved_answer database (Err fault) = Refused (refusals.Resolve fault)
resolved_answer database (Ok a) =
    listed_answer (segment_list database.config database.bundles a)
    (any_has_too_many database.config database.bundles a)

-- the same of a query whose results are carried: the rows are those of what the results reach
abbrev pub reached_answer : DatabaseParts → Result ReachedParts AskFault → Answer
reached_answer database (Err fault) = Refused (refusals.Resolve fault)
reached_answer database (Ok r) =
    listed_answer (carried_list database.config database.bundles r)
    (any_has_too_many database.config database.bundles r.asked)

-- what a text was prepared to, with the name of the level of the times where it is given, and with its
-- requery where its results are carried
abbrev pub asked_answer : DatabaseParts → PreparedParts → Option (List ℕ) → Option Requery → Answer
asked_answer database prepared time None = resolved_answer database (asked database.config prepared.query time)
asked_answer database prepared time (Some requery) =
    reached_answer database (reached database.config prepared.query requery time)

-- the same, or the fault of the text or of its patterns
abbrev pub prepared_answer : DatabaseParts → Result PreparedParts PrepareFault → Option (List ℕ) → Option Requery → Answer
prepared_answer database (Err fault) time requery = prepare_answer fault (is_memory_of fault)
prepared_answer database (Ok prepared) time requery = asked_answer database prepared time requery

-- The answer to a query over a database is the first of these: the fault of its text or of its patterns,
-- the fault of its names and levels, that it has too many tuples in some bundle, its segment list.
abbrev pub answer_over : DatabaseParts → Ask → Answer
answer_over database ask = prepared_answer database ask.prepared ask.time ask.requery

-- the answer to a query over the state after the first n entries
abbrev pub answer_at : ConfigParts → List Entry → ℕ → Ask → Answer
answer_at c history n ask = answer_over (database_after c (take n history)) ask

-- The rule that an act breaks.

-- the place of the edit that breaks a rule is told where the act is a list of edits, also a list of one: the
-- command is `edits`, or `undo`, whose act is what takes a line back
abbrev pub place_shown : Command → ℕ → Option ℕ
place_shown commands.Edits place = Some place
place_shown commands.Undo place = Some place
place_shown command place = None

-- the refusal of an act by the rule that it breaks
abbrev pub rule_refusal : Command → Breach → Refusal
rule_refusal command breach = refusals.Rule breach.rule (place_shown command breach.place)

-- The fault of a TextGrid.

-- whether the fault of a TextGrid is want of memory
abbrev pub is_want_of_memory : GridFault → Bool
is_want_of_memory faults.Memory = true
is_want_of_memory fault = false

-- the fault of a TextGrid refuses its line with the number of the present state; want of memory, of which the
-- flag speaks, is answered as such and has no number
abbrev pub grid_number : ℕ → Bool → Option ℕ
grid_number n true = None
grid_number n false = Some n

-- and its answer
abbrev pub grid_answer : GridFault → Bool → Answer
grid_answer fault true = memory
grid_answer fault false = Refused (refusals.Grid fault)

-- the reply to a line
abbrev pub reply_to : Line → Option ℕ → Answer → Reply
reply_to l n answer = record { line = l.line; session = l.session; n = n; answer = answer }

-- the reply to a line whose TextGrid has a fault, where n entries stand
abbrev pub grid_reply : Line → ℕ → GridFault → Reply
grid_reply l n fault =
    reply_to l (grid_number n (is_want_of_memory fault)) (grid_answer fault (is_want_of_memory fault))

-- the entry that an accepted act of a line puts into the history
abbrev pub entry_of : Line → Act → Entry
entry_of l act = record { session = l.session; line = l.line; act = act }
