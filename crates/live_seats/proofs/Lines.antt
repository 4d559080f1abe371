-- One line of a lane: from what the code answers to what a line does to the parts of a seat.
use Rattle.std.proofs.Common.{◌≡◌, ℕ, ◌<◌, Bool, true, false, List, [], length, append-nil, Option, Some, None, Result, Ok, Err, IfOk, OnErr, refl, sym, ap, ◌∙◌, subst}
use mathlib.Core.List.{IsPrefix}
use Rattle.emu_names.specs.declared.shortage.Memory.{Memory}
use Rattle.textgrid.specs.declared.fault.GridFault.{GridFault}
use Rattle.version_gate.specs.declared.entry.Entry.{Entry as Numbered}
use Rattle.version_gate.specs.Lists.{Numbered as IsNumbered}
use Rattle.version_tree.specs.Version.{state_of}
use Rattle.edit_undo.specs.declared.faults.NoUndo.{NoUndo}
use Rattle.query_workers.specs.session_core.declared.kept_acts.KeptAct.{KeptAct}
use Rattle.query_workers.specs.session_core.declared.line.Answer.TheVariants.{Refused}
use Rattle.query_workers.specs.session_core.declared.line.Ask.{Ask}
use Rattle.query_workers.specs.session_core.declared.line.Line.{Line}
use Rattle.query_workers.specs.session_core.declared.line.Refusal.TheVariants as refusals
use Rattle.query_workers.specs.session_core.declared.line.Reply.{Reply}
use Rattle.query_workers.specs.session_core.declared.line.Request.TheVariants as requests
use Rattle.query_workers.specs.session_core.declared.slots.Held.{Held}
use Rattle.query_workers.specs.session_core.Answers.{is_want_of_memory, memory, reply_to}
use Rattle.query_workers.specs.session_core.Inner.Kept.{look_answer, look_closed, opened_in}
use Rattle.query_workers.specs.session_core.Queries.{lacks_memory}
use Rattle.query_workers.specs.session_core.Steps.{session_places, slot}
use Rattle.query_workers.specs.session_core.Undos.{latest_of, undo_refusal}
use Rattle.query_workers.proofs.of_session_core.SlotPlaces.{length_put_slot}
use Rattle.live_book.specs.declared.published.Published.{Published}
use Rattle.live_book.specs.Live.{Opened}
use Rattle.live_book.specs.Inner.Live.{Count}
use Rattle.query_workers.specs.session_core.Inner.Told.{head_of, or_memory}
use Rattle.live_laws.specs.Lanes.{IsStep}
use Rattle.live_seats.specs.Inner.Replies.{Finishes, GoesOn, IsGridRefused, IsQueried, LooksAt, RepliesTo, look_held}
use Rattle.live_seats.specs.Inner.Seats.{TakesLine, answered_step, counted_by}
use Rattle.live_seats.proofs.Counts.{after_count, closed_count, grid_count, look_count, memory_count, no_undo_count, not_accepted_count, open_count, query_count, turn_of}
use Rattle.live_seats.proofs.Replying.{Steps, after_steps, finish_steps, grid_steps, look_steps, memory_steps, no_undo_steps, not_accepted_steps, query_steps}
use Rattle.live_seats.proofs.Shown.{number_is}

-- Looks stand at places, of which there are as many as before.

looked_places : (list : List (Numbered Published)) (l : Line) (ask : Ask) (looks looks_now : List (Option Held)) (v : Option Held) (reply : Reply) → LooksAt list l ask looks v looks_now reply → length looks_now ≡ length looks
looked_places list l ask looks looks_now None reply a = ap length a.looks ∙ length_put_slot looks l.session.0 (Some (look_held l ask a.n a.shown))
looked_places list l ask looks looks_now (Some held) reply a = ap length a.looks

answered_places : (l : Line) (looks : List (Option Held)) (held : Held) (b : Bool) → length (look_answer l.line l.session looks held b).1 ≡ length looks
answered_places l looks held true = refl
answered_places l looks held false = length_put_slot looks l.session.0 None

closed_places : (l : Line) (looks : List (Option Held)) (v : Option Held) → length (look_closed l.line l.session looks v).1 ≡ length looks
closed_places l looks None = refl
closed_places l looks (Some held) = answered_places l looks held (lacks_memory held.ask)

looked_count : (count : Count) (list : List (Numbered Published)) (l : Line) (ask : Ask) (looks looks_now : List (Option Held)) (v : Option Held) (reply : Reply) → l.request ≡ requests.Look ask → LooksAt list l ask looks v looks_now reply
    → count ≡ counted_by count (turn_of l reply)
looked_count count list l ask looks looks_now None reply is a =
    subst (λ (r : Reply). count ≡ counted_by count (turn_of l r)) (sym a.made) (look_count count l ask a.n is)
looked_count count list l ask looks looks_now (Some held) reply is a =
    subst (λ (r : Reply). count ≡ counted_by count (turn_of l r)) (sym a.made) (open_count count l)

module _ (o : Opened) (old new : List (Numbered Published)) (count : Count) (looks : List (Option Held)) (acts : List KeptAct) (l : Line) (learnt : IsPrefix old new)
    (place : l.session.0 < session_places) where
  abbrev Replies : List (Option Held) → Reply → Option ℕ → Type 0
  Replies looks_now reply heard = RepliesTo o old new count count looks looks_now acts acts l reply heard

  replies : (looks_now : List (Option Held)) (reply : Reply) (heard : Option ℕ) → count ≡ counted_by count (turn_of l reply) → length looks_now ≡ length looks
      → Steps o old new looks acts l learnt place looks_now acts reply heard → Replies looks_now reply heard
  replies looks_now reply heard counted places step = record { learnt = learnt; counted = counted; places = places; step = step }

  -- want of memory
  pub wants : (looks_now : List (Option Held)) (heard : Option ℕ) → looks_now ≡ looks → Replies looks_now (reply_to l None memory) heard
  wants looks_now heard same =
      subst (λ (xs : List (Option Held)). Replies xs (reply_to l None memory) heard) (sym same)
      (replies looks (reply_to l None memory) heard (memory_count count l) refl (memory_steps o old new looks acts l learnt place heard))

  pub query_replies : (ask : Ask) (made : Result Reply Memory) → l.request ≡ requests.Query ask → IfOk made (IsQueried new l ask) → Replies looks (or_memory (head_of l) made) None
  query_replies ask (Ok reply) is q =
      replies looks reply None
      (subst (λ (r : Reply). count ≡ counted_by count (turn_of l r)) (sym q.made) (query_count count l ask q.n (state_of q.shown.version) is))
      refl (query_steps o old new looks acts l learnt place ask reply is q)
  query_replies ask (Err want) is q = wants looks None refl

  pub grid_replies : (fault : GridFault) (made : Result Reply Memory) → l.request ≡ requests.Edit (Err fault) → IfOk made (IsGridRefused new l fault) → Replies looks (or_memory (head_of l) made) None
  grid_replies fault (Ok reply) is g =
      replies looks reply None
      (subst (λ (r : Reply). count ≡ counted_by count (turn_of l r)) (sym g.made) (grid_count count l fault g.n (is_want_of_memory fault) is))
      refl (grid_steps o old new looks acts l learnt place fault reply is g)
  grid_replies fault (Err want) is g = wants looks None refl

  pub after_replies : (earlier heard : ℕ) (made : Result Reply Memory) → l.request ≡ requests.After earlier → IfOk made (GoesOn new l heard) → Replies looks (or_memory (head_of l) made) (Some heard)
  after_replies earlier heard (Ok reply) is g =
      replies looks reply (Some heard)
      (subst (λ (r : Reply). count ≡ counted_by count (turn_of l r)) (sym g.made) (after_count count l earlier g.n is))
      refl (after_steps o old new looks acts l learnt place earlier heard reply is g)
  after_replies earlier heard (Err want) is g = wants looks (Some heard) refl

  pub look_replies : (ask : Ask) (looks_now : List (Option Held)) (made : Result Reply Memory) → l.request ≡ requests.Look ask → IfOk made (LooksAt new l ask looks (slot looks l.session.0) looks_now) → OnErr made (looks_now ≡ looks)
      → Replies looks_now (or_memory (head_of l) made) None
  look_replies ask looks_now (Ok reply) is ok err =
      replies looks_now reply None (looked_count count new l ask looks looks_now (slot looks l.session.0) reply is ok)
      (looked_places new l ask looks looks_now (slot looks l.session.0) reply ok)
      (look_steps o old new looks acts l learnt place ask looks_now reply is ok)
  look_replies ask looks_now (Err want) is ok err = wants looks_now None err

  pub finish_replies : (looks_now : List (Option Held)) (made : Result Reply Memory) → l.request ≡ requests.Finish → IfOk made (Finishes l looks looks_now) → OnErr made (looks_now ≡ looks)
      → Replies looks_now (or_memory (head_of l) made) None
  finish_replies looks_now (Ok reply) is ok err =
      replies looks_now reply None
      (subst (λ (t : Reply × List (Option Held)). count ≡ counted_by count (turn_of l t.0)) (sym ok) (closed_count count l looks (slot looks l.session.0) is))
      (ap (λ (t : Reply × List (Option Held)). length t.1) ok ∙ closed_places l looks (slot looks l.session.0))
      (finish_steps o old new looks acts l learnt place looks_now reply is ok)
  finish_replies looks_now (Err want) is ok err = wants looks_now None err

  pub not_accepted_replies : (earlier : ℕ) → l.request ≡ requests.Undo earlier → latest_of l.session.0 earlier acts ≡ None
      → Replies looks (reply_to l None (Refused refusals.NotAccepted)) None
  not_accepted_replies earlier is back =
      replies looks (reply_to l None (Refused refusals.NotAccepted)) None (not_accepted_count count l) refl
      (not_accepted_steps o old new looks acts l learnt place earlier is back)

  pub no_undo_replies : (earlier : ℕ) (reason : NoUndo) → l.request ≡ requests.Undo earlier → latest_of l.session.0 earlier acts ≡ Some (Err reason)
      → Replies looks (reply_to l None (Refused (undo_refusal reason))) None
  no_undo_replies earlier reason is back =
      replies looks (reply_to l None (Refused (undo_refusal reason))) None (no_undo_count count l reason) refl
      (no_undo_steps o old new looks acts l learnt place earlier reason is back)

-- Replies at which the pass and the share stay.

module _ (o : Opened) (list : List (Numbered Published)) (count : Count) (looks : List (Option Held)) (acts acts_now : List KeptAct) (l : Line) (place : l.session.0 < session_places)
    (same : acts_now ≡ acts) where
  abbrev Told : Reply → Type 0
  Told reply = RepliesTo o list list count count looks looks acts acts_now l reply None

  told_as : (reply told : Reply) → reply ≡ told → RepliesTo o list list count count looks looks acts acts l told None → Told reply
  told_as reply told is r =
      subst Told (sym is) (subst (λ (ks : List KeptAct). RepliesTo o list list count count looks looks acts ks l told None) (sym same) r)

  -- there is no room for what would take an act back
  pub memory_told : (reply : Reply) → reply ≡ reply_to l None memory → Told reply
  memory_told reply is = told_as reply (reply_to l None memory) is (wants o list list count looks acts l ([], append-nil list) place looks None refl)

  pub not_accepted_told : (reply : Reply) (earlier : ℕ) → l.request ≡ requests.Undo earlier → latest_of l.session.0 earlier acts ≡ None
      → reply ≡ reply_to l None (Refused refusals.NotAccepted) → Told reply
  not_accepted_told reply earlier asks back is =
      told_as reply (reply_to l None (Refused refusals.NotAccepted)) is (not_accepted_replies o list list count looks acts l ([], append-nil list) place earlier asks back)

  pub no_undo_told : (reply : Reply) (earlier : ℕ) (reason : NoUndo) → l.request ≡ requests.Undo earlier → latest_of l.session.0 earlier acts ≡ Some (Err reason)
      → reply ≡ reply_to l None (Refused (undo_refusal reason)) → Told reply
  no_undo_told reply earlier reason asks back is =
      told_as reply (reply_to l None (Refused (undo_refusal reason))) is (no_undo_replies o list list count looks acts l ([], append-nil list) place earlier reason asks back)

-- the number is noted
pub takes_line : (o : Opened) (old new : List (Numbered Published)) (count count_now : Count) (looks looks_now : List (Option Held)) (acts acts_now : List KeptAct) (l : Line) (reply : Reply) (heard : Option ℕ) (noted : ℕ)
    → IsNumbered noted new → RepliesTo o old new count count_now looks looks_now acts acts_now l reply heard
    → TakesLine o old new count count_now looks looks_now acts acts_now l (answered_step l reply noted heard)
takes_line o old new count count_now looks looks_now acts acts_now l reply heard noted here r = record {
  line = refl;
  learnt = r.learnt;
  counted = r.counted;
  places = r.places;
  step = λ marks before history sees. (
    subst (λ (n : ℕ). IsStep o.config (length o.entries) o.stored before history (opened_in looks) (opened_in looks_now) marks l (answered_step l reply n heard))
        (sym (number_is o history new noted sees.shown_now here)) (r.step marks before history sees).0,
    (r.step marks before history sees).1,
  );
}
