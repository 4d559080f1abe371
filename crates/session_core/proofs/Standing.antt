-- In turn, each number is that of the moment: the turns of a list of lines, and how many entries
-- stand behind each of them.
use Rattle.std.proofs.Common.{◌≡◌, ℕ, zero, suc, ◌+◌, Bool, true, false, List, [], ◌∷◌, length, Option, Some, None, Result, Ok, Err, refl, ap, subst, arith, length-append}
use Rattle.edit_undo.specs.edit_rules.declared.acts.Breach.{Breach}
use Rattle.textgrid.specs.declared.fault.GridFault.{GridFault}
use Rattle.edit_undo.specs.edit_rules.Database.{DatabaseParts}
use Rattle.edit_undo.specs.edit_rules.declared.acts.Act.{Act}
use Rattle.session_core.specs.declared.line.Ask.{Ask}
use Rattle.session_core.specs.declared.line.Answer.TheVariants.{Refused}
use Rattle.session_core.specs.declared.line.Refusal.{Refusal}
use Rattle.session_core.specs.declared.line.Refusal.TheVariants as refusals
use Rattle.session_core.specs.declared.line.Request.{Request}
use Rattle.session_core.specs.declared.line.Request.TheVariants as requests
use Rattle.session_core.specs.declared.line.Line.{Line}
use Rattle.session_core.specs.declared.line.Reply.{Reply}
use Rattle.edit_undo.specs.edit_rules.Effects.{edited}
use Rattle.edit_undo.specs.declared.faults.NoUndo.{NoUndo}
use Rattle.session_core.specs.Undos.{undo_refusal}
use Rattle.session_core.specs.Queries.{lacks_memory}
use Rattle.session_core.specs.Answers.{memory, is_want_of_memory, grid_number, grid_answer, reply_to, entry_of}
use Rattle.session_core.specs.Steps.{Opened, State, slot, put_slot, taking_back, present, is_full, opened_at, edit_step, look_step, finish_step, look_answered, query_step, way_answered, query_fails}
use Rattle.session_core.specs.Worlds.{Turn, Trouble, untroubled, no_memory, store_full, disk_failed}
use Rattle.session_core.specs.Legal.{lines_in, replies_in, accepting}
use Rattle.session_core.specs.InOrder.{Outage, fine, at_first, at_last, disk_fails, replied, query_begun, edit_outcome, trouble_at, undo_turn, unless_outage, request_turn, one_turn, in_turn}
use Rattle.session_core.specs.Readings.{IsStanding, AreStanding}

-- The turns of a list of lines.

abbrev pub turn_to : Line → Reply → Turn
turn_to l reply = record { line = l; reply = reply }

abbrev pub turns_in_turn : Bool → State → List Line → List Outage → List Turn
turns_in_turn store st [] outages = []
turns_in_turn store st (l ∷ ls) [] = []
turns_in_turn store st (l ∷ ls) (outage ∷ outages) =
    turn_to l (one_turn store st l outage).0 ∷ turns_in_turn store (one_turn store st l outage).1 ls outages

pub replies_told : (store : Bool) (st : State) (ls : List Line) (outages : List Outage) → replies_in (turns_in_turn store st ls outages) ≡ (in_turn store st ls outages).0
replies_told store st [] outages = refl
replies_told store st (l ∷ ls) [] = refl
replies_told store st (l ∷ ls) (outage ∷ outages) = ap (λ (rs : List Reply). (one_turn store st l outage).0 ∷ rs) (replies_told store (one_turn store st l outage).1 ls outages)

pub lines_told : (store : Bool) (st : State) (ls : List Line) (outages : List Outage) → length outages ≡ length ls → lines_in (turns_in_turn store st ls outages) ≡ ls
lines_told store st [] outages long = refl
lines_told store st (l ∷ ls) [] long = absurd (let size : 0 ≡ suc (length ls) = long in omega arith)
lines_told store st (l ∷ ls) (outage ∷ outages) long = ap (λ (rest : List Line). l ∷ rest) (lines_told store (one_turn store st l outage).1 ls outages (omega (arith, long)))

-- One line: its number is the number of entries behind it, an acceptance's entry among them.

record Counts (st : State) (l : Line) (request : Request) (out : Reply × State) : Type 0 where
  stands : IsStanding (present st + length (accepting l request out.0.n out.0.answer)) request out.0.n
  count : present out.1 ≡ present st + length (accepting l request out.0.n out.0.answer)

module _ (st : State) (l : Line) where
  -- want of memory, which has no number and leaves the state
  memory_counts : (request : Request) → Counts st l request (reply_to l None memory, st)
  memory_counts (requests.Edit (Ok act)) = record { stands = tt; count = omega arith }
  memory_counts (requests.Edit (Err fault)) = record { stands = tt; count = omega arith }
  memory_counts (requests.Undo earlier) = record { stands = tt; count = omega arith }
  memory_counts (requests.Query ask) = record { stands = tt; count = omega arith }
  memory_counts (requests.Look ask) = record { stands = tt; count = omega arith }
  memory_counts requests.Finish = record { stands = tt; count = omega arith }
  memory_counts (requests.After earlier) = record { stands = tt; count = omega arith }

  edit_counts : (act : Act) (full : Bool) (made : Result DatabaseParts Breach) → Counts st l (requests.Edit (Ok act)) (replied l (edit_step st l act full made))
  edit_counts act true made = record { stands = omega arith; count = omega arith }
  edit_counts act false (Ok database) = record { stands = refl; count = length-append st.entries (entry_of l act ∷ []) }
  edit_counts act false (Err breach) = record { stands = omega arith; count = omega arith }

  look_counts : (ask : Ask) (held : Option Opened) → Counts st l (requests.Look ask) (replied l (look_step st l ask held))
  look_counts ask None = record { stands = omega arith; count = omega arith }
  look_counts ask (Some held) = record { stands = tt; count = omega arith }

  answered_counts : (held : Opened) (short : Bool) → Counts st l requests.Finish (replied l (look_answered st l.line l.session held short))
  answered_counts held true = record { stands = tt; count = omega arith }
  answered_counts held false = record { stands = tt; count = omega arith }

  finish_counts : (held : Option Opened) → Counts st l requests.Finish (replied l (finish_step st l.line l.session held))
  finish_counts None = record { stands = tt; count = omega arith }
  finish_counts (Some held) = answered_counts held (lacks_memory held.ask)

  -- a query under way, if there is one, is over the present state
  abbrev IsNow : Option Opened → Type 0
  IsNow None = Unit {0}
  IsNow (Some held) = held.n ≡ present st

  now_put : (queries : List (Option Opened)) (s : ℕ) (held : Opened) → held.n ≡ present st → IsNow (slot (put_slot queries s (Some held)) s)
  now_put [] s held is = tt
  now_put (x ∷ xs) zero held is = is
  now_put (x ∷ xs) (suc s) held is = now_put xs s held is

  way_counts : (ask : Ask) (held : Opened) (short : Bool) → held.n ≡ present st → Counts st l (requests.Query ask) (replied l (way_answered (query_begun st l ask) l.line l.session held short))
  way_counts ask held true is = record { stands = tt; count = omega arith }
  way_counts ask held false is = record { stands = omega arith; count = omega arith }

  query_counts : (ask : Ask) (held : Option Opened) → IsNow held → Counts st l (requests.Query ask) (replied l (query_step (query_begun st l ask) l.line l.session held))
  query_counts ask None is = record { stands = tt; count = omega arith }
  query_counts ask (Some held) is = way_counts ask held (lacks_memory held.ask) is

  fails_counts : (ask : Ask) (held : Option Opened) → Counts st l (requests.Query ask) (replied l (query_fails (query_begun st l ask) l.line l.session held))
  fails_counts ask None = record { stands = tt; count = omega arith }
  fails_counts ask (Some held) = record { stands = tt; count = omega arith }

  -- the query that the line itself puts under way
  abbrev under_way : Ask → Option Opened
  under_way ask = slot (put_slot st.queries l.session.0 (Some (opened_at st l ask))) l.session.0

  -- an edit that is answered without an entry
  kept_counts : (act : Act) (n : ℕ) (refusal : Refusal) → n ≡ present st → Counts st l (requests.Edit (Ok act)) (reply_to l (Some n) (Refused refusal), st)
  kept_counts act n refusal is = record { stands = omega arith; count = omega arith }

  trouble_counts : (act : Act) (trouble : Trouble) → Counts st l (requests.Edit (Ok act)) (replied l (edit_outcome st l act trouble))
  trouble_counts act untroubled = edit_counts act (is_full st.entries) (edited st.config st.entries act)
  trouble_counts act no_memory = memory_counts (requests.Edit (Ok act))
  trouble_counts act store_full = kept_counts act (present st) refusals.StoreFull refl
  trouble_counts act disk_failed = record { stands = tt; count = omega arith }

  -- an `undo`, of which an act is wanted, counts as an edit
  undo_stands : (k earlier : ℕ) (act : Act) (n : Option ℕ) → IsStanding k (requests.Edit (Ok act)) n → IsStanding k (requests.Undo earlier) n
  undo_stands k earlier act None stands = tt
  undo_stands k earlier act (Some n) stands = stands

  as_undo : (earlier : ℕ) (act : Act) (out : Reply × State) → Counts st l (requests.Edit (Ok act)) out → Counts st l (requests.Undo earlier) out
  as_undo earlier act out one = record {
    stands = undo_stands (present st + length (accepting l (requests.Edit (Ok act)) out.0.n out.0.answer)) earlier act out.0.n one.stands;
    count = one.count;
  }

  alone_counts : (earlier : ℕ) (refusal : Refusal) (outage : Outage) → Counts st l (requests.Undo earlier) (unless_outage st l outage (Some (reply_to l None (Refused refusal)), st))
  alone_counts earlier refusal fine = record { stands = tt; count = omega arith }
  alone_counts earlier refusal at_first = memory_counts (requests.Undo earlier)
  alone_counts earlier refusal at_last = memory_counts (requests.Undo earlier)
  alone_counts earlier refusal disk_fails = record { stands = tt; count = omega arith }

  undo_counts : (store : Bool) (earlier : ℕ) (inverse : Option (Result Act NoUndo)) (outage : Outage) → Counts st l (requests.Undo earlier) (undo_turn store st l inverse outage)
  undo_counts store earlier None outage = alone_counts earlier refusals.NotAccepted outage
  undo_counts store earlier (Some (Err fault)) outage = alone_counts earlier (undo_refusal fault) outage
  undo_counts store earlier (Some (Ok act)) outage =
      as_undo earlier act (replied l (edit_outcome st l act (trouble_at store st l act outage))) (trouble_counts act (trouble_at store st l act outage))

  -- a line whose TextGrid has a fault
  abbrev grid_out : GridFault → Bool → Reply × State
  grid_out fault short = (reply_to l (grid_number (present st) short) (grid_answer fault short), st)

  grid_counts : (fault : GridFault) (short : Bool) → Counts st l (requests.Edit (Err fault)) (grid_out fault short)
  grid_counts fault true = memory_counts (requests.Edit (Err fault))
  grid_counts fault false = record { stands = omega arith; count = omega arith }

  request_counts : (store : Bool) (request : Request) (outage : Outage) → Counts st l request (request_turn store st l request outage)
  request_counts store (requests.Edit (Ok act)) outage = trouble_counts act (trouble_at store st l act outage)
  request_counts store (requests.Edit (Err fault)) fine = grid_counts fault (is_want_of_memory fault)
  request_counts store (requests.Edit (Err fault)) at_first = memory_counts (requests.Edit (Err fault))
  request_counts store (requests.Edit (Err fault)) at_last = memory_counts (requests.Edit (Err fault))
  request_counts store (requests.Edit (Err fault)) disk_fails = grid_counts fault (is_want_of_memory fault)
  request_counts store (requests.Undo earlier) outage = undo_counts store earlier (taking_back st l.session.0 earlier) outage
  request_counts store (requests.Query ask) fine = query_counts ask (under_way ask) (now_put st.queries l.session.0 (opened_at st l ask) refl)
  request_counts store (requests.Query ask) at_first = memory_counts (requests.Query ask)
  request_counts store (requests.Query ask) at_last = fails_counts ask (under_way ask)
  request_counts store (requests.Query ask) disk_fails = query_counts ask (under_way ask) (now_put st.queries l.session.0 (opened_at st l ask) refl)
  request_counts store (requests.Look ask) fine = look_counts ask (slot st.looks l.session.0)
  request_counts store (requests.Look ask) at_first = memory_counts (requests.Look ask)
  request_counts store (requests.Look ask) at_last = memory_counts (requests.Look ask)
  request_counts store (requests.Look ask) disk_fails = look_counts ask (slot st.looks l.session.0)
  request_counts store requests.Finish fine = finish_counts (slot st.looks l.session.0)
  request_counts store requests.Finish at_first = memory_counts requests.Finish
  request_counts store requests.Finish at_last = memory_counts requests.Finish
  request_counts store requests.Finish disk_fails = finish_counts (slot st.looks l.session.0)
  request_counts store (requests.After earlier) fine = record { stands = omega arith; count = omega arith }
  request_counts store (requests.After earlier) at_first = memory_counts (requests.After earlier)
  request_counts store (requests.After earlier) at_last = memory_counts (requests.After earlier)
  request_counts store (requests.After earlier) disk_fails = record { stands = omega arith; count = omega arith }

-- line after line
pub numbers_told : (store : Bool) (st : State) (ls : List Line) (outages : List Outage) → AreStanding (present st) (turns_in_turn store st ls outages)
numbers_told store st [] outages = tt
numbers_told store st (l ∷ ls) [] = tt
numbers_told store st (l ∷ ls) (outage ∷ outages) =
    let one : Counts st l l.request (one_turn store st l outage) = request_counts st l store l.request outage in (
      one.stands,
      subst (λ (k : ℕ). AreStanding k (turns_in_turn store (one_turn store st l outage).1 ls outages)) one.count
          (numbers_told store (one_turn store st l outage).1 ls outages),
    )
