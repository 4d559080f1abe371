-- What a share counts of an answer.
use Rattle.std.proofs.Common.{◌≡◌, ℕ, suc, ◌+◌, Bool, true, false, List, [], ◌++◌, length, Option, Some, None, Result, Ok, Err, cond, refl, ap, ◌∙◌, arith}
use Rattle.textgrid.specs.declared.fault.GridFault.{GridFault}
use Rattle.edit_undo.specs.edit_rules.Database.{DatabaseParts}
use Rattle.edit_undo.specs.declared.faults.NoUndo.{NoUndo}
use Rattle.edit_undo.specs.declared.faults.NoUndo.TheVariants as reasons
use Rattle.eql_resolve.specs.declared.faults.AskFault.{AskFault}
use Rattle.eql_resolve.specs.declared.faults.PrepareFault.{PrepareFault}
use Rattle.eql_resolve.specs.Asked.{AskedParts}
use Rattle.eql_resolve.specs.Prepared.{PreparedParts}
use Rattle.eql_resolve.specs.Resolve.{asked}
use Rattle.requery.specs.eql_rows.declared.row.Row.{Row}
use Rattle.requery.specs.declared.target.Requery.{Requery}
use Rattle.requery.specs.Target.{ReachedParts}
use Rattle.requery.specs.Asks.{reached}
use Rattle.requery.specs.Carried.{carried_list}
use Rattle.requery.specs.eql_model.Rows.{segment_list, any_has_too_many}
use Rattle.query_workers.specs.session_core.declared.line.Answer.{Answer}
use Rattle.query_workers.specs.session_core.declared.line.Answer.TheVariants.{Done, Refused}
use Rattle.query_workers.specs.session_core.declared.line.Ask.{Ask}
use Rattle.query_workers.specs.session_core.declared.line.Line.{Line}
use Rattle.query_workers.specs.session_core.declared.line.Refusal.{Refusal}
use Rattle.query_workers.specs.session_core.declared.line.Refusal.TheVariants as refusals
use Rattle.query_workers.specs.session_core.declared.line.Reply.{Reply}
use Rattle.query_workers.specs.session_core.declared.line.Request.{Request}
use Rattle.query_workers.specs.session_core.declared.line.Request.TheVariants as requests
use Rattle.query_workers.specs.session_core.declared.slots.Held.{Held}
use Rattle.query_workers.specs.session_core.Answers.{answer_over, asked_answer, grid_answer, grid_number, listed_answer, memory, prepare_answer, prepared_answer, reached_answer, reply_to, resolved_answer, rule_refusal}
use Rattle.query_workers.specs.session_core.Inner.Kept.{held_answer, look_answer, look_closed}
use Rattle.query_workers.specs.session_core.Legal.{accepting, is_disk, makes_entry, told_mark}
use Rattle.query_workers.specs.session_core.Undos.{undo_refusal}
use Rattle.query_workers.specs.session_core.Queries.{is_memory_of, lacks_memory}
use Rattle.query_workers.proofs.of_session_core.Turns.{disk_of, disks_push}
use Rattle.query_workers.specs.session_core.Worlds.{Turn}
use Rattle.edit_undo.specs.edit_rules.declared.commit_fault.EditFault.{EditFault}
use Rattle.edit_undo.specs.edit_rules.declared.commit_fault.EditFault.TheVariants as faults
use Rattle.live_book.specs.Inner.Live.{Count, count_behind}
use Rattle.query_workers.specs.session_core.Inner.Told.{commit_reply}
use Rattle.live_seats.specs.Inner.Seats.{accepts_at, counted_by, disk_at}

-- a turn of a line
abbrev pub turn_of : Line → Reply → Turn
turn_of l reply = record { line = l; reply = reply }

abbrev count_of : ℕ → ℕ → ℕ → Count
count_of parts accepted refused = record { parts = parts; accepted = accepted; refused = refused }

same_count : (parts a b r s : ℕ) → a ≡ b → r ≡ s → count_of parts a r ≡ count_of parts b s
same_count parts a b r s accepts refuses = ap (λ n. count_of parts n r) accepts ∙ ap (λ n. count_of parts b n) refuses

-- nothing is counted
counts_none : (count : Count) (t : Turn) → accepts_at t ≡ 0 → disk_at t ≡ 0 → count ≡ counted_by count t
counts_none count t accepts disk =
    same_count count.parts count.accepted (count.accepted + accepts_at t) count.refused (count.refused + disk_at t) (omega (arith, accepts)) (omega (arith, disk))

-- No edit was accepted.

no_edit : (l : Line) (n : Option ℕ) (answer : Answer) (r : Request) → l.request ≡ r → accepting l r n answer ≡ [] → accepts_at (turn_of l (reply_to l n answer)) ≡ 0
no_edit l n answer r is none =
    ap (λ (q : Request). length (accepting l q n answer ++ [])) is ∙ ap (λ xs. length (xs ++ [])) none

told_none : (l : Line) (makes : Bool) (answer : Answer) → told_mark l makes None answer ≡ []
told_none l true answer = refl
told_none l false answer = refl

told_refused : (l : Line) (makes : Bool) (n : Option ℕ) (refusal : Refusal) → told_mark l makes n (Refused refusal) ≡ []
told_refused l true None refusal = refl
told_refused l true (Some n) refusal = refl
told_refused l false n refusal = refl

-- a reply without a number, and a refusal, tell no entry
pub accepting_none : (l : Line) (r : Request) (answer : Answer) → accepting l r None answer ≡ []
accepting_none l r answer = told_none l (makes_entry r) answer

pub accepting_refused : (l : Line) (r : Request) (n : Option ℕ) (refusal : Refusal) → accepting l r n (Refused refusal) ≡ []
accepting_refused l r n refusal = told_refused l (makes_entry r) n refusal

-- The disk did not fail.

pub disk_at_is : (t : Turn) → disk_at t ≡ disk_of t.reply.answer
disk_at_is t = let push : disk_at t ≡ 0 + disk_of t.reply.answer = disks_push [] t in omega arith

no_disk : (l : Line) (n : Option ℕ) (answer : Answer) → is_disk answer ≡ false → disk_at (turn_of l (reply_to l n answer)) ≡ 0
no_disk l n answer calm = disk_at_is (turn_of l (reply_to l n answer)) ∙ ap (λ b. cond b 1 0) calm

listed_calm : (rows : List Row) (b : Bool) → is_disk (listed_answer rows b) ≡ false
listed_calm rows true = refl
listed_calm rows false = refl

resolved_calm : (database : DatabaseParts) (r : Result AskedParts AskFault) → is_disk (resolved_answer database r) ≡ false
resolved_calm database (Err fault) = refl
resolved_calm database (Ok a) =
    listed_calm (segment_list database.config database.bundles a) (any_has_too_many database.config database.bundles a)

reached_calm : (database : DatabaseParts) (r : Result ReachedParts AskFault) → is_disk (reached_answer database r) ≡ false
reached_calm database (Err fault) = refl
reached_calm database (Ok r) =
    listed_calm (carried_list database.config database.bundles r) (any_has_too_many database.config database.bundles r.asked)

asked_calm : (database : DatabaseParts) (prepared : PreparedParts) (time : Option (List ℕ)) (requery : Option Requery) →
    is_disk (asked_answer database prepared time requery) ≡ false
asked_calm database prepared time None = resolved_calm database (asked database.config prepared.query time)
asked_calm database prepared time (Some requery) = reached_calm database (reached database.config prepared.query requery time)

prepare_calm : (fault : PrepareFault) (b : Bool) → is_disk (prepare_answer fault b) ≡ false
prepare_calm fault true = refl
prepare_calm fault false = refl

prepared_calm : (database : DatabaseParts) (r : Result PreparedParts PrepareFault) (time : Option (List ℕ)) (requery : Option Requery) →
    is_disk (prepared_answer database r time requery) ≡ false
prepared_calm database (Err fault) time requery = prepare_calm fault (is_memory_of fault)
prepared_calm database (Ok prepared) time requery = asked_calm database prepared time requery

answer_calm : (database : DatabaseParts) (ask : Ask) → is_disk (answer_over database ask) ≡ false
answer_calm database ask = prepared_calm database ask.prepared ask.time ask.requery

-- Each kind of reply.

module _ (count : Count) (l : Line) where
  abbrev pub Same : Reply → Type 0
  Same reply = count ≡ counted_by count (turn_of l reply)

  quiet : (n : Option ℕ) (answer : Answer) (r : Request) → l.request ≡ r → accepting l r n answer ≡ [] → is_disk answer ≡ false → Same (reply_to l n answer)
  quiet n answer r is none calm = counts_none count (turn_of l (reply_to l n answer)) (no_edit l n answer r is none) (no_disk l n answer calm)

  -- a refusal without a number
  quiet_none : (answer : Answer) → is_disk answer ≡ false → Same (reply_to l None answer)
  quiet_none answer calm = quiet None answer l.request refl (accepting_none l l.request answer) calm

  pub memory_count : Same (reply_to l None memory)
  memory_count = quiet_none memory refl

  pub query_count : (ask : Ask) (n : ℕ) (database : DatabaseParts) → l.request ≡ requests.Query ask → Same (reply_to l (Some n) (answer_over database ask))
  query_count ask n database is = quiet (Some n) (answer_over database ask) (requests.Query ask) is refl (answer_calm database ask)

  pub look_count : (ask : Ask) (n : ℕ) → l.request ≡ requests.Look ask → Same (reply_to l (Some n) (Done l.command))
  look_count ask n is = quiet (Some n) (Done l.command) (requests.Look ask) is refl refl

  pub open_count : Same (reply_to l None (Refused refusals.LookOpen))
  open_count = quiet_none (Refused refusals.LookOpen) refl

  pub after_count : (earlier n : ℕ) → l.request ≡ requests.After earlier → Same (reply_to l (Some n) (Done l.command))
  after_count earlier n is = quiet (Some n) (Done l.command) (requests.After earlier) is refl refl

  pub grid_count : (fault : GridFault) (n : ℕ) (b : Bool) → l.request ≡ requests.Edit (Err fault) → Same (reply_to l (grid_number n b) (grid_answer fault b))
  grid_count fault n true is = memory_count
  grid_count fault n false is = quiet (Some n) (Refused (refusals.Grid fault)) (requests.Edit (Err fault)) is refl refl

  answered_count : (looks : List (Option Held)) (held : Held) (b : Bool) → l.request ≡ requests.Finish → Same (look_answer l.line l.session looks held b).0
  answered_count looks held true is = memory_count
  answered_count looks held false is = quiet (Some held.n) (held_answer held) requests.Finish is refl (answer_calm held.database held.ask)

  pub closed_count : (looks : List (Option Held)) (v : Option Held) → l.request ≡ requests.Finish → Same (look_closed l.line l.session looks v).0
  closed_count looks None is = quiet_none (Refused refusals.NoLook) refl
  closed_count looks (Some held) is = answered_count looks held (lacks_memory held.ask) is

  -- an `undo` that wants no act
  pub not_accepted_count : Same (reply_to l None (Refused refusals.NotAccepted))
  not_accepted_count = quiet_none (Refused refusals.NotAccepted) refl

  pub no_undo_count : (reason : NoUndo) → Same (reply_to l None (Refused (undo_refusal reason)))
  no_undo_count reasons.NoInverse = quiet_none (Refused refusals.NoInverse) refl
  no_undo_count reasons.TooManyEdits = quiet_none (Refused refusals.TooManyEdits) refl

  -- an act
  module _ (makes : makes_entry l.request ≡ true) where
    refused_count : (n : ℕ) (refusal : Refusal) → is_disk (Refused refusal) ≡ false → Same (reply_to l (Some n) (Refused refusal))
    refused_count n refusal calm = quiet (Some n) (Refused refusal) l.request refl (accepting_refused l l.request (Some n) refusal) calm

    accepts_one : (n : ℕ) → accepts_at (turn_of l (reply_to l (Some n) (Done l.command))) ≡ 1
    accepts_one n = ap (λ (b : Bool). length (told_mark l b (Some n) (Done l.command) ++ [])) makes

    pub act_count : (made : Result ℕ EditFault) → count_behind count made ≡ counted_by count (turn_of l (commit_reply l made))
    act_count (Ok n) =
        let t : Turn = turn_of l (commit_reply l (Ok n)) in
        let one : accepts_at t ≡ 1 = accepts_one n in
        let none : disk_at t ≡ 0 = no_disk l (Some n) (Done l.command) refl in
        same_count count.parts (suc count.accepted) (count.accepted + accepts_at t) count.refused (count.refused + disk_at t) (omega (arith, one)) (omega (arith, none))
    act_count (Err (faults.HistoryFull n)) = refused_count n refusals.HistoryFull refl
    act_count (Err (faults.Broken breach n)) = refused_count n (rule_refusal l.command breach) refl
    act_count (Err (faults.StoreFull n)) = refused_count n refusals.StoreFull refl
    act_count (Err faults.Disk) =
        let t : Turn = turn_of l (commit_reply l (Err faults.Disk)) in
        let none : accepts_at t ≡ 0 = no_edit l None (Refused refusals.Disk) l.request refl (accepting_none l l.request (Refused refusals.Disk)) in
        let one : disk_at t ≡ 1 = disk_at_is t in
        same_count count.parts count.accepted (count.accepted + accepts_at t) (suc count.refused) (count.refused + disk_at t) (omega (arith, none)) (omega (arith, one))
    act_count (Err faults.Memory) = memory_count
