-- From a reply of each kind to a lane's step. Before the line the lane had seen the history `old`, and an open look of
-- the line's session had a number of that history; behind it the lane has seen H.
use Rattle.std.proofs.Common.{◌≡◌, inl, inr, ℕ, ◌+◌, ◌<◌, ◌≤◌, Bool, true, false, List, length, Option, Some, None, Result, Ok, Err, slice_get, take, refl, sym, ◌∙◌, ap, subst, arith}
use mathlib.Core.List.{IsPrefix}
use Rattle.emu_names.specs.declared.limits.TheConstants.{HISTORY_EDITS}
use Rattle.db_config.specs.declared.parts.ConfigParts.{ConfigParts}
use Rattle.textgrid.specs.declared.fault.GridFault.{GridFault}
use Rattle.edit_rules.specs.declared.acts.Act.{Act}
use Rattle.edit_rules.specs.declared.acts.Entry.{Entry}
use Rattle.edit_rules.specs.Database.{DatabaseParts}
use Rattle.edit_rules.specs.Effects.{edited}
use Rattle.session_core.specs.declared.line.Answer.{Answer}
use Rattle.session_core.specs.declared.line.Answer.TheVariants.{Done, Refused}
use Rattle.session_core.specs.declared.line.Ask.{Ask}
use Rattle.session_core.specs.declared.line.Line.{Line}
use Rattle.session_core.specs.declared.line.Refusal.{Refusal}
use Rattle.session_core.specs.declared.line.Refusal.TheVariants as refusals
use Rattle.session_core.specs.declared.line.Request.{Request}
use Rattle.session_core.specs.declared.line.Request.TheVariants as requests
use Rattle.session_core.specs.Answers.{answer_at, entry_of, is_want_of_memory, memory}
use Rattle.session_core.specs.Queries.{lacks_memory}
use Rattle.session_core.specs.edit_undo.declared.faults.NoUndo.{NoUndo}
use Rattle.session_core.specs.edit_undo.declared.faults.NoUndo.TheVariants as reasons
use Rattle.session_core.specs.declared.kept_acts.KeptAct.{KeptAct}
use Rattle.session_core.specs.Undos.{latest_of, undo_refusal}
use Rattle.session_core.specs.Inner.Undone.{AreKept}
use Rattle.session_core.proofs.Undoing.{kept_takes_back}
use Rattle.session_core.specs.Steps.{Opened, put_slot, session_places, slot}
use Rattle.session_core.specs.Worlds.{Each}
use Rattle.session_core.specs.Legal.{FinishReplyFits, IsRight, IsAcceptance, IsRightQuery, IsRightRefusal, Mark, TakesBack, UndoAnswers, ReplyUndoes, accepted_as, KeepsUp, Look, LookReplyFits, ReplyFits, accepting, finish_behind, look_behind, open_behind}
use Rattle.session_core.proofs.Places.{put_length, slot_other, slot_put}
use Rattle.live_laws.specs.Lanes.{HasHeard, IsLookIn, IsPast, IsStep, look_of}
use Rattle.live_laws.specs.Inner.Lanes.{step_of}
use Rattle.live_laws.proofs.Steps.{begins_length}

-- a line that asks this
abbrev with_request : Line → Request → Line
with_request l r = record { line = l.line; session = l.session; command = l.command; request = r }

-- Replies without a number.

fresh_none : (m : ℕ) (l : Line) (r : Request) (answer : Answer) → Each (IsPast m) (accepting l r None answer)
fresh_none m l (requests.Edit (Ok act)) answer = tt
fresh_none m l (requests.Edit (Err fault)) answer = tt
fresh_none m l (requests.Undo earlier) answer = tt
fresh_none m l (requests.Query ask) answer = tt
fresh_none m l (requests.Look ask) answer = tt
fresh_none m l requests.Finish answer = tt
fresh_none m l (requests.After earlier) answer = tt

heard_none : (r : Request) (heard : Option ℕ) → HasHeard r None heard
heard_none (requests.Edit given) heard = tt
heard_none (requests.Undo earlier) heard = tt
heard_none (requests.Query ask) heard = tt
heard_none (requests.Look ask) heard = tt
heard_none requests.Finish heard = tt
heard_none (requests.After earlier) heard = tt

look_memory : (held : Option Look) → LookReplyFits held None memory
look_memory None = refl
look_memory (Some held) = inr refl

finish_memory : (c : ConfigParts) (H : List Entry) (held : Option Look) → FinishReplyFits c H held None memory
finish_memory c H None = inr refl
finish_memory c H (Some held) = refl

memory_fits : (c : ConfigParts) (H : List Entry) (held : Option Look) (r : Request) → ReplyFits c H held r None memory
memory_fits c H held (requests.Look ask) = look_memory held
memory_fits c H held requests.Finish = finish_memory c H held
memory_fits c H held (requests.Edit given) = tt
memory_fits c H held (requests.Undo earlier) = tt
memory_fits c H held (requests.Query ask) = tt
memory_fits c H held (requests.After earlier) = tt

open_none : (held : Option Look) (r : Request) → open_behind held r None ≡ held
open_none held (requests.Look ask) = refl
open_none held requests.Finish = refl
open_none held (requests.Edit given) = refl
open_none held (requests.Undo earlier) = refl
open_none held (requests.Query ask) = refl
open_none held (requests.After earlier) = refl

-- an open look's number is one of a longer history
in_more : (m low high : ℕ) (look : Option Opened) → low ≤ high → IsLookIn m low look → IsLookIn m high look
in_more m low high None up is = tt
in_more m low high (Some held) up is = (is.0, let seen : held.n ≤ low = is.1 in omega arith)

-- Want of memory, by what takes back the line of an `undo`.

undo_memory : (c : ConfigParts) (H : List Entry) (store : Bool) (l : Line) (inverse : Option (Result Act NoUndo)) → UndoAnswers c H store l inverse None memory
undo_memory c H store l None = inr refl
undo_memory c H store l (Some (Err fault)) = inr refl
undo_memory c H store l (Some (Ok act)) = inl refl

memory_undoes : (c : ConfigParts) (H : List Entry) (store : Bool) (marks : List Mark) (acts : List KeptAct) (l : Line) (r : Request) → AreKept c H marks acts
    → ReplyUndoes c H store marks l r None memory
memory_undoes c H store marks acts l (requests.Undo earlier) are = record {
  inverse = latest_of l.session.0 earlier acts;
  takes = kept_takes_back c H marks acts l.session.0 earlier are;
  answers = undo_memory c H store l (latest_of l.session.0 earlier acts);
}
memory_undoes c H store marks acts l (requests.Edit given) are = tt
memory_undoes c H store marks acts l (requests.Query ask) are = tt
memory_undoes c H store marks acts l (requests.Look ask) are = tt
memory_undoes c H store marks acts l requests.Finish are = tt
memory_undoes c H store marks acts l (requests.After earlier) are = tt

-- what is kept takes back the entries that the lane accepted before, whose marks these are
module _ (c : ConfigParts) (m : ℕ) (store : Bool) (old H : List Entry) (looks : List (Option Opened)) (marks : List Mark) (acts : List KeptAct) (l : Line)
    (from : m ≤ length old) (goes_on : IsPrefix old H) (place : l.session.0 < session_places)
    (look_in : IsLookIn m (length old) (slot looks l.session.0)) (are : AreKept c H marks acts) where
  high : length old ≤ length H
  high = begins_length old H goes_on

  -- the number of entries that the lane has seen now
  above : (n : ℕ) → n ≡ length H → m ≤ n
  above n all = let up : length old ≤ length H = high in omega (arith, from)

  below : (n : ℕ) → n ≡ length H → n ≤ length H
  below n all = omega arith

  after : (n : ℕ) → n ≡ length H → length old ≤ n
  after n all = let up : length old ≤ length H = high in omega arith

  -- what the line asks is known
  of_request : (new : List (Option Opened)) (n : Option ℕ) (answer : Answer) (heard : Option ℕ) (r : Request) → l.request ≡ r
      → IsStep c m store old H looks new marks (with_request l r) (step_of (with_request l r) n answer (length H) heard)
      → IsStep c m store old H looks new marks l (step_of l n answer (length H) heard)
  of_request new n answer heard r is step =
      subst (λ (k : Request). IsStep c m store old H looks new marks (with_request l k) (step_of (with_request l k) n answer (length H) heard)) (sym is) step

  -- a reply that leaves the looks as they were
  stays : (n : Option ℕ) (answer : Answer) (heard : Option ℕ) (r : Request) → l.request ≡ r
      → IsRight c m H store (with_request l r) n answer
      → Each (IsPast m) (accepting (with_request l r) r n answer)
      → KeepsUp (length old) r n
      → ReplyFits c H (look_of (slot looks l.session.0)) r n answer
      → open_behind (look_of (slot looks l.session.0)) r n ≡ look_of (slot looks l.session.0)
      → ReplyUndoes c H store marks (with_request l r) r n answer
      → HasHeard r n heard
      → IsStep c m store old H looks looks marks l (step_of l n answer (length H) heard)
  stays n answer heard r is right fresh keeps fits opens undoes has_heard = of_request looks n answer heard r is (record {
    goes_on = goes_on;
    line = refl;
    place = place;
    named = record { line = refl; session = refl };
    right = right;
    fresh = fresh;
    keeps = keeps;
    fits = fits;
    opens = opens;
    undoes = undoes;
    look_in = in_more m (length old) (length H) (slot looks l.session.0) high look_in;
    others = λ s ne. refl;
    places = refl;
    noted = refl;
    heard = has_heard;
  })

  -- want of memory, whatever the line asks
  pub want_of_memory_step : (heard : Option ℕ) → IsStep c m store old H looks looks marks l (step_of l None memory (length H) heard)
  want_of_memory_step heard =
      let held : Option Look = look_of (slot looks l.session.0) in
      stays None memory heard l.request refl tt (fresh_none m l l.request memory) tt (memory_fits c H held l.request) (open_none held l.request)
      (memory_undoes c H store marks acts l l.request are) (heard_none l.request heard)

  -- a query, answered over the history that the lane has seen now
  pub query_step : (ask : Ask) (n : ℕ) (answer : Answer) (heard : Option ℕ) → l.request ≡ requests.Query ask → n ≡ length H → IsRightQuery c H ask n answer
      → IsStep c m store old H looks looks marks l (step_of l (Some n) answer (length H) heard)
  query_step ask n answer heard is all right =
      stays (Some n) answer heard (requests.Query ask) is (above n all, below n all, right) tt (after n all) tt refl tt tt

  -- an `after` that has heard of its line
  pub after_step : (earlier n noted : ℕ) → l.request ≡ requests.After earlier → n ≡ length H → noted ≤ n
      → IsStep c m store old H looks looks marks l (step_of l (Some n) (Done l.command) (length H) (Some noted))
  after_step earlier n noted is all has_heard =
      stays (Some n) (Done l.command) (Some noted) (requests.After earlier) is (above n all, below n all, refl) tt (after n all) tt refl tt has_heard

  -- a TextGrid with a fault
  pub grid_step : (fault : GridFault) (n : ℕ) (heard : Option ℕ) → l.request ≡ requests.Edit (Err fault) → n ≡ length H → is_want_of_memory fault ≡ false
      → IsStep c m store old H looks looks marks l (step_of l (Some n) (Refused (refusals.Grid fault)) (length H) heard)
  grid_step fault n heard is all is_fault =
      stays (Some n) (Refused (refusals.Grid fault)) heard (requests.Edit (Err fault)) is
      (above n all, below n all, record { told = refl; is_fault = is_fault }) tt (after n all) tt refl tt tt

  -- Edits.

  -- an edit was accepted behind so many entries
  pub accepted_step : (act : Act) (before : ℕ) (database : DatabaseParts) (heard : Option ℕ) → l.request ≡ requests.Edit (Ok act)
      → length old ≤ before → before < length H → before < HISTORY_EDITS → edited c (take before H) act ≡ Ok database → slice_get H before ≡ Some (entry_of l act)
      → IsStep c m store old H looks looks marks l (step_of l (Some (before + 1)) (Done l.command) (length H) heard)
  accepted_step act before database heard is least most room right entry =
      let low : m ≤ before + 1 = omega (arith, from) in
      let top : before + 1 ≤ length H = omega arith in
      let past : m < before + 1 = omega (arith, from) in
      let keeps : length old ≤ before + 1 = omega arith in
      stays (Some (before + 1)) (Done l.command) heard (requests.Edit (Ok act)) is
      (low, top, record { own = refl; before = before; number = refl; room = room; database = database; right = right; entry = entry })
      (past, tt) keeps tt refl tt tt

  -- an edit was refused, over the state after n entries
  pub refused_step : (act : Act) (n : ℕ) (refusal : Refusal) (heard : Option ℕ) → l.request ≡ requests.Edit (Ok act)
      → length old ≤ n → n ≤ length H → IsRightRefusal c H store l act n refusal
      → IsStep c m store old H looks looks marks l (step_of l (Some n) (Refused refusal) (length H) heard)
  refused_step act n refusal heard is least most right =
      let low : m ≤ n = omega (arith, from) in
      let there : IsRightRefusal c H store (with_request l (requests.Edit (Ok act))) act n refusal =
      subst (λ (k : Request). IsRightRefusal c H store (with_request l k) act n refusal) is right in
      stays (Some n) (Refused refusal) heard (requests.Edit (Ok act)) is (low, most, there) tt least tt refl tt tt

  -- the disk failed
  pub disk_step : (act : Act) (heard : Option ℕ) → l.request ≡ requests.Edit (Ok act) → store ≡ true
      → IsStep c m store old H looks looks marks l (step_of l None (Refused refusals.Disk) (length H) heard)
  disk_step act heard is stored =
      stays None (Refused refusals.Disk) heard (requests.Edit (Ok act)) is stored tt tt tt refl tt tt

  -- An `undo`, by what is kept of its line.

  undo_takes : (earlier : ℕ) (inverse : Option (Result Act NoUndo)) → latest_of l.session.0 earlier acts ≡ inverse
      → TakesBack c H (accepted_as l.session.0 earlier marks) inverse
  undo_takes earlier inverse kept =
      subst (λ (i : Option (Result Act NoUndo)). TakesBack c H (accepted_as l.session.0 earlier marks) i) kept (kept_takes_back c H marks acts l.session.0 earlier are)

  -- nothing is kept of the line, which was not accepted
  pub undo_not_accepted_step : (earlier : ℕ) (heard : Option ℕ) → l.request ≡ requests.Undo earlier → latest_of l.session.0 earlier acts ≡ None
      → IsStep c m store old H looks looks marks l (step_of l None (Refused refusals.NotAccepted) (length H) heard)
  undo_not_accepted_step earlier heard is kept =
      stays None (Refused refusals.NotAccepted) heard (requests.Undo earlier) is tt tt tt tt refl
      (record { inverse = None; takes = undo_takes earlier None kept; answers = inl refl }) tt

  -- nothing takes the line back
  pub undo_no_inverse_step : (earlier : ℕ) (reason : NoUndo) (heard : Option ℕ) → l.request ≡ requests.Undo earlier → latest_of l.session.0 earlier acts ≡ Some (Err reason)
      → IsStep c m store old H looks looks marks l (step_of l None (Refused (undo_refusal reason)) (length H) heard)
  undo_no_inverse_step earlier reasons.NoInverse heard is kept =
      stays None (Refused refusals.NoInverse) heard (requests.Undo earlier) is tt tt tt tt refl
      (record { inverse = Some (Err reasons.NoInverse); takes = undo_takes earlier (Some (Err reasons.NoInverse)) kept; answers = inl refl }) tt
  undo_no_inverse_step earlier reasons.TooManyEdits heard is kept =
      stays None (Refused refusals.TooManyEdits) heard (requests.Undo earlier) is tt tt tt tt refl
      (record { inverse = Some (Err reasons.TooManyEdits); takes = undo_takes earlier (Some (Err reasons.TooManyEdits)) kept; answers = inl refl }) tt

  -- what takes the line back was accepted behind so many entries
  pub undo_accepted_step : (earlier : ℕ) (act : Act) (before : ℕ) (database : DatabaseParts) (heard : Option ℕ) → l.request ≡ requests.Undo earlier
      → latest_of l.session.0 earlier acts ≡ Some (Ok act)
      → length old ≤ before → before < length H → before < HISTORY_EDITS → edited c (take before H) act ≡ Ok database → slice_get H before ≡ Some (entry_of l act)
      → IsStep c m store old H looks looks marks l (step_of l (Some (before + 1)) (Done l.command) (length H) heard)
  undo_accepted_step earlier act before database heard is kept least most room right entry =
      let low : m ≤ before + 1 = omega (arith, from) in
      let top : before + 1 ≤ length H = omega arith in
      let past : m < before + 1 = omega (arith, from) in
      let keeps : length old ≤ before + 1 = omega arith in
      let accepts : IsAcceptance c H (with_request l (requests.Undo earlier)) act (before + 1) l.command =
      record { own = refl; before = before; number = refl; room = room; database = database; right = right; entry = entry } in
      stays (Some (before + 1)) (Done l.command) heard (requests.Undo earlier) is
      (low, top, record { act = act; right = accepts })
      (past, tt) keeps tt refl
      (record { inverse = Some (Ok act); takes = undo_takes earlier (Some (Ok act)) kept; answers = accepts }) tt

  -- it was refused, over the state after n entries
  pub undo_refused_step : (earlier : ℕ) (act : Act) (n : ℕ) (refusal : Refusal) (heard : Option ℕ) → l.request ≡ requests.Undo earlier
      → latest_of l.session.0 earlier acts ≡ Some (Ok act)
      → length old ≤ n → n ≤ length H → IsRightRefusal c H store l act n refusal
      → IsStep c m store old H looks looks marks l (step_of l (Some n) (Refused refusal) (length H) heard)
  undo_refused_step earlier act n refusal heard is kept least most right =
      let low : m ≤ n = omega (arith, from) in
      let there : IsRightRefusal c H store (with_request l (requests.Undo earlier)) act n refusal =
      subst (λ (k : Request). IsRightRefusal c H store (with_request l k) act n refusal) is right in
      stays (Some n) (Refused refusal) heard (requests.Undo earlier) is (low, most, record { act = act; right = there }) tt least tt refl
      (record { inverse = Some (Ok act); takes = undo_takes earlier (Some (Ok act)) kept; answers = there }) tt

  -- the disk failed
  pub undo_disk_step : (earlier : ℕ) (act : Act) (heard : Option ℕ) → l.request ≡ requests.Undo earlier → latest_of l.session.0 earlier acts ≡ Some (Ok act) → store ≡ true
      → IsStep c m store old H looks looks marks l (step_of l None (Refused refusals.Disk) (length H) heard)
  undo_disk_step earlier act heard is kept stored =
      stays None (Refused refusals.Disk) heard (requests.Undo earlier) is stored tt tt tt refl
      (record { inverse = Some (Ok act); takes = undo_takes earlier (Some (Ok act)) kept; answers = inr (stored, refl) }) tt

  -- Looks.

  -- a `look` where one is open
  pub look_open_step : (ask : Ask) (held : Opened) (heard : Option ℕ) → l.request ≡ requests.Look ask → slot looks l.session.0 ≡ Some held
      → IsStep c m store old H looks looks marks l (step_of l None (Refused refusals.LookOpen) (length H) heard)
  look_open_step ask held heard is there =
      stays None (Refused refusals.LookOpen) heard (requests.Look ask) is tt tt tt
      (subst (λ (look : Option Opened). LookReplyFits (look_of look) None (Refused refusals.LookOpen)) (sym there) (inl refl)) refl tt tt

  -- a `finish` where no look is open
  pub no_look_step : (heard : Option ℕ) → l.request ≡ requests.Finish → slot looks l.session.0 ≡ None
      → IsStep c m store old H looks looks marks l (step_of l None (Refused refusals.NoLook) (length H) heard)
  no_look_step heard is there =
      stays None (Refused refusals.NoLook) heard requests.Finish is tt tt tt
      (subst (λ (look : Option Opened). FinishReplyFits c H (look_of look) None (Refused refusals.NoLook)) (sym there) (inl refl)) refl tt tt

  -- another look at the session's place
  module _ (count : length looks ≡ session_places) (look : Option Opened) where
    put_there : slot (put_slot looks l.session.0 look) l.session.0 ≡ look
    put_there = slot_put looks l.session.0 look (subst (λ (k : ℕ). l.session.0 < k) (sym count) place)

    puts : (n : Option ℕ) (answer : Answer) (heard : Option ℕ) (r : Request) → l.request ≡ r
        → IsRight c m H store (with_request l r) n answer
        → Each (IsPast m) (accepting (with_request l r) r n answer)
        → KeepsUp (length old) r n
        → ReplyFits c H (look_of (slot looks l.session.0)) r n answer
        → open_behind (look_of (slot looks l.session.0)) r n ≡ look_of look
        → IsLookIn m (length H) look
        → ReplyUndoes c H store marks (with_request l r) r n answer
        → HasHeard r n heard
        → IsStep c m store old H looks (put_slot looks l.session.0 look) marks l (step_of l n answer (length H) heard)
    puts n answer heard r is right fresh keeps fits opens is_in undoes has_heard = of_request (put_slot looks l.session.0 look) n answer heard r is (record {
      goes_on = goes_on;
      line = refl;
      place = place;
      named = record { line = refl; session = refl };
      right = right;
      fresh = fresh;
      keeps = keeps;
      fits = fits;
      opens = opens ∙ ap (λ (o : Option Opened). look_of o) (sym put_there);
      look_in = subst (λ (o : Option Opened). IsLookIn m (length H) o) (sym put_there) is_in;
      undoes = undoes;
      others = λ s ne. slot_other looks l.session.0 s look ne;
      places = put_length looks l.session.0 look;
      noted = refl;
      heard = has_heard;
    })

  -- a `look` opens, over the history that the lane has seen now
  pub look_step : (opened : Opened) (heard : Option ℕ) → length looks ≡ session_places → l.request ≡ requests.Look opened.ask → opened.n ≡ length H
      → slot looks l.session.0 ≡ None
      → IsStep c m store old H looks (put_slot looks l.session.0 (Some opened)) marks l (step_of l (Some opened.n) (Done l.command) (length H) heard)
  look_step opened heard count is all there =
      puts count (Some opened) (Some opened.n) (Done l.command) heard (requests.Look opened.ask) is
      (above opened.n all, below opened.n all, refl) tt (after opened.n all)
      (subst (λ (look : Option Opened). LookReplyFits (look_of look) (Some opened.n) (Done l.command)) (sym there) tt)
      (ap (λ (look : Option Opened). look_behind (look_of look) opened.ask (Some opened.n)) there)
      (above opened.n all, below opened.n all) tt tt

  -- a `finish` answers its look, and closes it
  pub finish_step : (held : Opened) (heard : Option ℕ) → length looks ≡ session_places → l.request ≡ requests.Finish → slot looks l.session.0 ≡ Some held
      → lacks_memory held.ask ≡ false
      → IsStep c m store old H looks (put_slot looks l.session.0 None) marks l (step_of l (Some held.n) (answer_at c H held.n held.ask) (length H) heard)
  finish_step held heard count is there read =
      let is_in : IsLookIn m (length old) (Some held) = subst (λ (look : Option Opened). IsLookIn m (length old) look) there look_in in
      let seen : held.n ≤ length old = is_in.1 in
      let up : length old ≤ length H = high in
      let top : held.n ≤ length H = omega arith in
      puts count None (Some held.n) (answer_at c H held.n held.ask) heard requests.Finish is
      (is_in.0, top, tt) tt tt
      (subst (λ (look : Option Opened). FinishReplyFits c H (look_of look) (Some held.n) (answer_at c H held.n held.ask)) (sym there)
      (refl, record { given = refl; is_told = read }))
      (ap (λ (look : Option Opened). finish_behind (look_of look) (Some held.n)) there)
      tt tt tt
