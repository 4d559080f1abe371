-- A seat keeps what it keeps: when it has answered no line, and behind one line more.
use Rattle.std.proofs.Common.{◌≡◌, ℕ, zero, suc, ◌+◌, ◌<◌, ◌≤◌, List, [], ◌∷◌, ◌++◌, length, replicate, append-nil, Option, None, refl, sym, ap, ◌∙◌, subst, arith, length-append}
use Rattle.std.proofs.lemmas.List.{length-replicate}
use mathlib.Core.List.{IsPrefix}
use Rattle.edit_undo.specs.edit_rules.declared.acts.Entry.{Entry}
use Rattle.version_gate.specs.declared.entry.Entry.{Entry as Numbered}
use Rattle.version_gate.specs.Lists.{Numbered as IsNumbered}
use Rattle.version_gate.proofs.Numbers.{same_start}
use Rattle.query_workers.specs.session_core.declared.kept_acts.KeptAct.{KeptAct}
use Rattle.query_workers.specs.session_core.declared.line.Line.{Line}
use Rattle.query_workers.specs.session_core.declared.slots.Held.{Held}
use Rattle.query_workers.specs.session_core.Inner.Kept.{opened_in}
use Rattle.query_workers.specs.session_core.Inner.Undone.{AreKept}
use Rattle.query_workers.specs.session_core.Legal.{Mark, accepted, accepting, disk_replies, replies_in}
use Rattle.query_workers.specs.session_core.Steps.{Opened as Look, session_places}
use Rattle.query_workers.specs.session_core.Worlds.{Turn}
use Rattle.query_workers.proofs.of_session_core.Keeping.{slots_empty}
use Rattle.query_workers.proofs.of_session_core.Turns.{accepted_push, disks_push}
use Rattle.live_book.specs.declared.published.Published.{Published}
use Rattle.live_book.specs.Live.{Opened, Shows}
use Rattle.live_book.specs.Inner.Live.{Count}
use Rattle.live_laws.specs.Lanes.{IsLane, Step, accepts, turns_of}
use Rattle.live_laws.proofs.Steps.{begins, begins_length, takes_step, turns_push}
use Rattle.live_seats.specs.Inner.Seats.{IsSeat, KeepsLane, SeatParts, TakesLine, accepts_at, disk_at, seat_of}
use Rattle.live_seats.proofs.Counts.{disk_at_is}
use Rattle.live_seats.proofs.Shown.{shows_before}

-- No line.

none_open : (n : ℕ) → opened_in (replicate n None) ≡ replicate n None
none_open zero = refl
none_open (suc n) = ap (λ (xs : List (Option Look)). None ∷ xs) (none_open n)

pub seat_begins : (o : Opened) (list : List (Numbered Published)) (count : Count) (looks : List (Option Held)) (acts : List KeptAct) (steps : List Step) (room k : ℕ)
    → IsNumbered k list → length o.entries ≤ k → 0 < count.parts → count.accepted ≡ 0 → count.refused ≡ 0 → looks ≡ replicate session_places None → acts ≡ [] → steps ≡ []
    → IsSeat o (seat_of list count looks acts steps room)
seat_begins o list count looks acts steps room k here past part accepted refused no_looks no_acts no_steps =
    subst (λ (ls : List (Option Held)). IsSeat o (seat_of list count ls acts steps room)) (sym no_looks)
    (subst (λ (ks : List KeptAct). IsSeat o (seat_of list count (replicate session_places None) ks steps room)) (sym no_acts)
    (subst (λ (xs : List Step). IsSeat o (seat_of list count (replicate session_places None) [] xs room)) (sym no_steps) (record {
      part = part;
      places = length-replicate {A = Option Held} session_places None;
      number = k;
      numbered = here;
      past = past;
      keeps = λ history shows. record {
        held = slots_empty o.config history;
        kept = tt;
        lane = subst (λ (ls : List (Option Look)). IsLane o.config (length o.entries) o.stored history ls []) (sym (none_open session_places))
            (begins o.config (length o.entries) o.stored history (begins_length o.entries history shows.goes_on));
      };
      accepted = sym accepted;
      refused = sym refused;
    })))

-- One line more.

-- a longer list has a higher number
number_rises : (k n : ℕ) (old new : List (Numbered Published)) → IsNumbered k old → IsNumbered n new → IsPrefix old new → k ≤ n
number_rises k n old new a b p =
    let start : a.0 ≡ b.0 = same_start a.0 b.0 old new new a.3 b.3 p ([], append-nil new) a.1 b.1 in
    let long : length old + length p.0 ≡ length new = sym (length-append old p.0) ∙ ap length p.1 in
    omega (arith, start, long, a.2, b.2)

accepts_push : (steps : List Step) (st : Step) → accepts (turns_of (steps ++ st ∷ [])) ≡ accepts (turns_of steps) + accepts_at st.turn
accepts_push steps st =
    ap accepts (turns_push steps st)
    ∙ ap length (accepted_push (turns_of steps) st.turn)
    ∙ length-append (accepted (turns_of steps)) (accepting st.turn.line st.turn.line.request st.turn.reply.n st.turn.reply.answer)
    ∙ ap (λ (n : ℕ). accepts (turns_of steps) + n) (sym (ap length (append-nil (accepting st.turn.line st.turn.line.request st.turn.reply.n st.turn.reply.answer))))

refused_push : (steps : List Step) (st : Step) → disk_replies (replies_in (turns_of (steps ++ st ∷ []))) ≡ disk_replies (replies_in (turns_of steps)) + disk_at st.turn
refused_push steps st =
    ap (λ (ts : List Turn). disk_replies (replies_in ts)) (turns_push steps st)
    ∙ disks_push (turns_of steps) st.turn
    ∙ ap (λ (n : ℕ). disk_replies (replies_in (turns_of steps)) + n) (sym (disk_at_is st.turn))

-- the marks of what was accepted, with those of one line more
marks_push : (steps : List Step) (l : Line) (st : Step) → st.turn.line ≡ l
    → accepted (turns_of steps) ++ accepting l l.request st.turn.reply.n st.turn.reply.answer ≡ accepted (turns_of (steps ++ st ∷ []))
marks_push steps l st line =
    ap (λ (k : Line). accepted (turns_of steps) ++ accepting k k.request st.turn.reply.n st.turn.reply.answer) (sym line)
    ∙ sym (accepted_push (turns_of steps) st.turn)
    ∙ ap (λ (ts : List Turn). accepted ts) (sym (turns_push steps st))

module _ (o : Opened) (old : SeatParts) (new : List (Numbered Published)) (count_now : Count) (looks_now : List (Option Held)) (acts_now : List KeptAct) (l : Line) (st : Step) (room n : ℕ)
    (seat : IsSeat o old) (takes : TakesLine o old.list new old.count count_now old.looks looks_now old.acts acts_now l st) (here : IsNumbered n new) where
  keeps_now : (history : List Entry) → Shows o history new → KeepsLane o history looks_now acts_now (old.steps ++ st ∷ [])
  keeps_now history shows =
      let was : (before : List Entry) × Shows o before old.list = shows_before o history old.list new seat.number shows takes.learnt seat.numbered seat.past in
      let kept : KeepsLane o was.0 old.looks old.acts old.steps = seat.keeps was.0 was.1 in
      let did = takes.step (accepted (turns_of old.steps)) was.0 history
      (record { shown_before = was.1; shown_now = shows; held = kept.held; kept = kept.kept; looks_in = λ s. (kept.lane.sessions s).look_in }) in
      record {
        held = did.1.held;
        kept = subst (λ (ms : List Mark). AreKept o.config history ms acts_now) (marks_push old.steps l st takes.line) did.1.kept;
        lane = takes_step o.config (length o.entries) o.stored was.0 history (opened_in old.looks) (opened_in looks_now) old.steps l st kept.lane did.0;
      }

  pub seat_goes_on : IsSeat o (seat_of new count_now looks_now acts_now (old.steps ++ st ∷ []) room)
  seat_goes_on = record {
    part = subst (λ (c : Count). 0 < c.parts) (sym takes.counted) seat.part;
    places = takes.places ∙ seat.places;
    number = n;
    numbered = here;
    past = omega (arith, seat.past, number_rises seat.number n old.list new seat.numbered here takes.learnt);
    keeps = keeps_now;
    accepted = accepts_push old.steps st ∙ ap (λ (k : ℕ). k + accepts_at st.turn) seat.accepted ∙ sym (ap (λ (c : Count). c.accepted) takes.counted);
    refused = refused_push old.steps st ∙ ap (λ (k : ℕ). k + disk_at st.turn) seat.refused ∙ sym (ap (λ (c : Count). c.refused) takes.counted);
  }
