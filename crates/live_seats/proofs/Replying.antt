-- From what the code answers at a line, to what the reply does to the parts of a seat.
use Rattle.std.proofs.Common.{◌≡◌, ℕ, ◌<◌, ◌≤◌, Bool, true, false, List, [], ◌++◌, length, take, Option, Some, None, Ok, Err, refl, sym, ap, ◌∙◌, subst, arith, append-nil}
use Rattle.std.specs.Option.{option_map}
use Rattle.std.proofs.lemmas.List.{length-map, take_all}
use mathlib.Core.List.{IsPrefix}
use Rattle.db_config.specs.declared.parts.ConfigParts.{ConfigParts}
use Rattle.textgrid.specs.declared.fault.GridFault.{GridFault}
use Rattle.edit_undo.specs.edit_rules.declared.acts.Entry.{Entry}
use Rattle.edit_undo.specs.edit_rules.Database.{DatabaseParts}
use Rattle.edit_undo.specs.edit_rules.Effects.{after}
use Rattle.version_gate.specs.declared.entry.Entry.{Entry as Numbered}
use Rattle.version_gate.specs.Lists.{EndsIn, entry}
use Rattle.version_tree.specs.Version.{state_of}
use Rattle.edit_undo.specs.declared.faults.NoUndo.{NoUndo}
use Rattle.query_workers.specs.session_core.declared.kept_acts.KeptAct.{KeptAct}
use Rattle.query_workers.specs.session_core.declared.line.Answer.{Answer}
use Rattle.query_workers.specs.session_core.declared.line.Answer.TheVariants.{Done, Refused}
use Rattle.query_workers.specs.session_core.declared.line.Ask.{Ask}
use Rattle.query_workers.specs.session_core.declared.line.Line.{Line}
use Rattle.query_workers.specs.session_core.declared.line.Refusal.TheVariants as refusals
use Rattle.query_workers.specs.session_core.declared.line.Reply.{Reply}
use Rattle.query_workers.specs.session_core.declared.line.Request.{Request}
use Rattle.query_workers.specs.session_core.declared.line.Request.TheVariants as requests
use Rattle.query_workers.specs.session_core.declared.slots.Held.{Held}
use Rattle.query_workers.specs.session_core.Answers.{answer_at, answer_over, grid_answer, grid_number, is_want_of_memory, memory, reply_to}
use Rattle.query_workers.specs.session_core.Inner.Kept.{AreHeld, IsHeld, IsMoment, held_answer, look_answer, look_closed, opened_by, opened_in}
use Rattle.query_workers.specs.session_core.Inner.Undone.{AreKept}
use Rattle.query_workers.specs.session_core.Legal.{Mark, accepting}
use Rattle.query_workers.specs.session_core.Queries.{lacks_memory}
use Rattle.query_workers.specs.session_core.Steps.{Opened as Look, put_slot, session_places, slot}
use Rattle.query_workers.specs.session_core.Undos.{latest_of, undo_refusal}
use Rattle.query_workers.proofs.of_session_core.Keeping.{looked_kept, slots_longer}
use Rattle.query_workers.proofs.of_session_core.Undoing.{are_kept_more}
use Rattle.query_workers.proofs.of_session_core.SlotPlaces.{length_put_slot, put_slot_map, slot_map, slot_put}
use Rattle.live_book.specs.declared.published.Published.{Published}
use Rattle.live_book.specs.Live.{Opened}
use Rattle.query_workers.specs.session_core.Inner.Told.{head_of}
use Rattle.live_laws.specs.Lanes.{IsStep}
use Rattle.live_laws.proofs.Replies.{after_step, finish_step, grid_step, look_open_step, look_step, no_look_step, query_step, undo_no_inverse_step, undo_not_accepted_step, want_of_memory_step}
use Rattle.live_laws.proofs.Steps.{begins_length}
use Rattle.live_seats.specs.Inner.Replies.{Finishes, GoesOn, IsGridRefused, IsOpenAlready, IsQueried, LooksAt, Opens, look_held}
use Rattle.live_seats.specs.Inner.Seats.{KeepsMore, SeesMore, answered_step}
use Rattle.live_seats.proofs.Counts.{accepting_none, accepting_refused}
use Rattle.live_seats.proofs.Shown.{goes_on, last_is}

-- What is held, beside a history that goes on.

pub held_on : (c : ConfigParts) (before history : List Entry) (looks : List (Option Held)) → IsPrefix before history → AreHeld c before looks → AreHeld c history looks
held_on c before history looks p held =
    subst (λ (H : List Entry). AreHeld c H looks) p.1 (slots_longer c before p.0 looks held)

-- Answers over a history.

answer_now : (c : ConfigParts) (H : List Entry) (n : ℕ) (ask : Ask) (database : DatabaseParts) → n ≡ length H → after c H ≡ Ok database → answer_over database ask ≡ answer_at c H n ask
answer_now c H n ask database all state =
    let whole : take n H ≡ H = take_all n H (omega arith) in
    rw (whole, state) refl

answer_then : (c : ConfigParts) (H : List Entry) (held : Held) → IsMoment c H held → held_answer held ≡ answer_at c H held.n held.ask
answer_then c H held m = rw m.database refl

module _ (o : Opened) (old new : List (Numbered Published)) (looks : List (Option Held)) (acts : List KeptAct) (l : Line) (learnt : IsPrefix old new)
    (place : l.session.0 < session_places) where
  -- the step of a reply, beside all histories
  abbrev pub Steps : List (Option Held) → List KeptAct → Reply → Option ℕ → Type 0
  Steps looks_now acts_now reply heard = (marks : List Mark) (before history : List Entry) → SeesMore o old new looks marks acts before history
      → IsStep o.config (length o.entries) o.stored before history (opened_in looks) (opened_in looks_now) marks l
      (answered_step l reply (length history) heard)
      × KeepsMore o history looks_now marks acts_now l reply

  -- a request tells no entry
  tells_none : (r : Request) (n : Option ℕ) (answer : Answer) → l.request ≡ r → accepting l r n answer ≡ [] → accepting l l.request n answer ≡ []
  tells_none r n answer is none = ap (λ (q : Request). accepting l q n answer) is ∙ none

  module _ (marks : List Mark) (before history : List Entry) (sees : SeesMore o old new looks marks acts before history) where
    pub from : length o.entries ≤ length before
    from = begins_length o.entries before sees.shown_before.goes_on

    pub on : IsPrefix before history
    on = goes_on o before history old new sees.shown_before sees.shown_now learnt

    pub held_now : AreHeld o.config history looks
    held_now = held_on o.config before history looks on sees.held

    pub kept_now : AreKept o.config history marks acts
    kept_now = subst (λ (H : List Entry). AreKept o.config H marks acts) on.1 (are_kept_more o.config before on.0 marks acts sees.kept)

    -- a reply that tells no entry leaves what is kept as it was
    pub keeps : (looks_now : List (Option Held)) (reply : Reply) → AreHeld o.config history looks_now → accepting l l.request reply.n reply.answer ≡ []
        → KeepsMore o history looks_now marks acts l reply
    keeps looks_now reply held none = record {
      held = held;
      kept = subst (λ (ms : List Mark). AreKept o.config history ms acts) (sym (ap (λ (ms : List Mark). marks ++ ms) none ∙ append-nil marks)) kept_now;
    }

    -- it leaves the looks too
    pub stays : (n : Option ℕ) (answer : Answer) → accepting l l.request n answer ≡ [] → KeepsMore o history looks marks acts l (reply_to l n answer)
    stays n answer none = keeps looks (reply_to l n answer) held_now none

    count : length (opened_in looks) ≡ session_places
    count = length-map looks (option_map opened_by) ∙ sees.held.places

    -- the last version that the pass has seen
    n_is : (n : ℕ) (shown : Published) → EndsIn new (entry n shown) → n ≡ length history
    n_is n shown ends = (last_is o history new n shown sees.shown_now ends).0

    state_is : (n : ℕ) (shown : Published) → EndsIn new (entry n shown) → after o.config history ≡ Ok (state_of shown.version)
    state_is n shown ends = (last_is o history new n shown sees.shown_now ends).1.state

  -- want of memory
  pub memory_steps : (heard : Option ℕ) → Steps looks acts (reply_to l None memory) heard
  memory_steps heard marks before history sees = (
    want_of_memory_step o.config (length o.entries) o.stored before history (opened_in looks) marks acts l (from marks before history sees) (on marks before history sees) place (sees.looks_in l.session.0) (kept_now marks before history sees) heard,
    stays marks before history sees None memory (accepting_none l l.request memory),
  )

  -- a query
  pub query_steps : (ask : Ask) (reply : Reply) → l.request ≡ requests.Query ask → IsQueried new l ask reply → Steps looks acts reply None
  query_steps ask reply is q = subst (λ (r : Reply). Steps looks acts r None) (sym q.made) told
    where
      told : Steps looks acts (reply_to l (Some q.n) (answer_over (state_of q.shown.version) ask)) None
      told marks before history sees =
          let all : q.n ≡ length history = n_is marks before history sees q.n q.shown q.last in
          let given = answer_now o.config history q.n ask (state_of q.shown.version) all (state_is marks before history sees q.n q.shown q.last) in (
            query_step o.config (length o.entries) o.stored before history (opened_in looks) marks acts l (from marks before history sees) (on marks before history sees) place (sees.looks_in l.session.0) (kept_now marks before history sees)
                ask q.n (answer_over (state_of q.shown.version) ask) None is all (record { given = given; is_told = q.is_told }),
            stays marks before history sees (Some q.n) (answer_over (state_of q.shown.version) ask)
                (tells_none (requests.Query ask) (Some q.n) (answer_over (state_of q.shown.version) ask) is refl),
          )

  -- an `after`
  pub after_steps : (earlier heard : ℕ) (reply : Reply) → l.request ≡ requests.After earlier → GoesOn new l heard reply → Steps looks acts reply (Some heard)
  after_steps earlier heard reply is g = subst (λ (r : Reply). Steps looks acts r (Some heard)) (sym g.made) told
    where
      told : Steps looks acts (reply_to l (Some g.n) (Done l.command)) (Some heard)
      told marks before history sees = (
        after_step o.config (length o.entries) o.stored before history (opened_in looks) marks acts l (from marks before history sees) (on marks before history sees) place (sees.looks_in l.session.0) (kept_now marks before history sees)
            earlier g.n heard is (n_is marks before history sees g.n g.shown g.last) g.enough,
        stays marks before history sees (Some g.n) (Done l.command) (tells_none (requests.After earlier) (Some g.n) (Done l.command) is refl),
      )

  -- a TextGrid with a fault
  grid_told_steps : (fault : GridFault) (n : ℕ) (shown : Published) (b : Bool) → l.request ≡ requests.Edit (Err fault) → EndsIn new (entry n shown) → is_want_of_memory fault ≡ b
      → Steps looks acts (reply_to l (grid_number n b) (grid_answer fault b)) None
  grid_told_steps fault n shown true is last want marks before history sees = memory_steps None marks before history sees
  grid_told_steps fault n shown false is last want marks before history sees = (
    grid_step o.config (length o.entries) o.stored before history (opened_in looks) marks acts l (from marks before history sees) (on marks before history sees) place (sees.looks_in l.session.0) (kept_now marks before history sees)
        fault n None is (n_is marks before history sees n shown last) want,
    stays marks before history sees (Some n) (Refused (refusals.Grid fault)) (accepting_refused l l.request (Some n) (refusals.Grid fault)),
  )

  pub grid_steps : (fault : GridFault) (reply : Reply) → l.request ≡ requests.Edit (Err fault) → IsGridRefused new l fault reply → Steps looks acts reply None
  grid_steps fault reply is g =
      subst (λ (r : Reply). Steps looks acts r None) (sym g.made) (grid_told_steps fault g.n g.shown (is_want_of_memory fault) is g.last refl)

  -- an `undo` of a line that was not accepted
  pub not_accepted_steps : (earlier : ℕ) → l.request ≡ requests.Undo earlier → latest_of l.session.0 earlier acts ≡ None
      → Steps looks acts (reply_to l None (Refused refusals.NotAccepted)) None
  not_accepted_steps earlier is back marks before history sees = (
    undo_not_accepted_step o.config (length o.entries) o.stored before history (opened_in looks) marks acts l (from marks before history sees) (on marks before history sees) place (sees.looks_in l.session.0) (kept_now marks before history sees)
        earlier None is back,
    stays marks before history sees None (Refused refusals.NotAccepted) (accepting_none l l.request (Refused refusals.NotAccepted)),
  )

  -- an `undo` of a line that nothing takes back
  pub no_undo_steps : (earlier : ℕ) (reason : NoUndo) → l.request ≡ requests.Undo earlier → latest_of l.session.0 earlier acts ≡ Some (Err reason)
      → Steps looks acts (reply_to l None (Refused (undo_refusal reason))) None
  no_undo_steps earlier reason is back marks before history sees = (
    undo_no_inverse_step o.config (length o.entries) o.stored before history (opened_in looks) marks acts l (from marks before history sees) (on marks before history sees) place (sees.looks_in l.session.0) (kept_now marks before history sees)
        earlier reason None is back,
    stays marks before history sees None (Refused (undo_refusal reason)) (accepting_none l l.request (Refused (undo_refusal reason))),
  )

  -- a `look` where one is open
  open_steps : (ask : Ask) (held : Held) (looks_now : List (Option Held)) (reply : Reply) → l.request ≡ requests.Look ask → slot looks l.session.0 ≡ Some held
      → IsOpenAlready l looks looks_now reply → Steps looks_now acts reply None
  open_steps ask held looks_now reply is there a =
      subst (λ (xs : List (Option Held)). Steps xs acts reply None) (sym a.looks)
      (subst (λ (r : Reply). Steps looks acts r None) (sym a.made) told)
    where
      told : Steps looks acts (reply_to l None (Refused refusals.LookOpen)) None
      told marks before history sees = (
        look_open_step o.config (length o.entries) o.stored before history (opened_in looks) marks acts l (from marks before history sees) (on marks before history sees) place (sees.looks_in l.session.0) (kept_now marks before history sees)
            ask (opened_by held) None is (slot_map opened_by looks l.session.0 ∙ ap (λ (v : Option Held). option_map opened_by v) there),
        stays marks before history sees None (Refused refusals.LookOpen) (accepting_none l l.request (Refused refusals.LookOpen)),
      )

  -- a `look` that opens
  opens_steps : (ask : Ask) (looks_now : List (Option Held)) (reply : Reply) → l.request ≡ requests.Look ask → slot looks l.session.0 ≡ None
      → Opens new l ask looks looks_now reply → Steps looks_now acts reply None
  opens_steps ask looks_now reply is there a =
      subst (λ (xs : List (Option Held)). Steps xs acts reply None) (sym a.looks)
      (subst (λ (r : Reply). Steps (put_slot looks l.session.0 (Some (look_held l ask a.n a.shown))) acts r None) (sym a.made) told)
    where
      told : Steps (put_slot looks l.session.0 (Some (look_held l ask a.n a.shown))) acts (reply_to l (Some a.n) (Done l.command)) None
      told marks before history sees =
          let all : a.n ≡ length history = n_is marks before history sees a.n a.shown a.last in
          let opened : Look = opened_by (look_held l ask a.n a.shown) in
          let same : put_slot (opened_in looks) l.session.0 (Some opened) ≡ opened_in (put_slot looks l.session.0 (Some (look_held l ask a.n a.shown))) =
          sym (put_slot_map opened_by looks l.session.0 (Some (look_held l ask a.n a.shown))) in (
            subst (λ (xs : List (Option Look)). IsStep o.config (length o.entries) o.stored before history (opened_in looks) xs marks l
                (answered_step l (reply_to l (Some a.n) (Done l.command)) (length history) None)) same
                (look_step o.config (length o.entries) o.stored before history (opened_in looks) marks acts l (from marks before history sees) (on marks before history sees) place (sees.looks_in l.session.0) (kept_now marks before history sees)
                opened None (count marks before history sees) is all
                (slot_map opened_by looks l.session.0 ∙ ap (λ (v : Option Held). option_map opened_by v) there)),
            keeps marks before history sees (put_slot looks l.session.0 (Some (look_held l ask a.n a.shown))) (reply_to l (Some a.n) (Done l.command))
                (subst (λ (n : ℕ). AreHeld o.config history (put_slot looks l.session.0 (Some (look_held l ask n a.shown)))) (sym all)
                (looked_kept o.config (head_of l) ask history (state_of a.shown.version) looks None (state_is marks before history sees a.n a.shown a.last) (held_now marks before history sees)))
                (tells_none (requests.Look ask) (Some a.n) (Done l.command) is refl),
          )

  looks_steps : (ask : Ask) (v : Option Held) (looks_now : List (Option Held)) (reply : Reply) → l.request ≡ requests.Look ask → slot looks l.session.0 ≡ v
      → LooksAt new l ask looks v looks_now reply → Steps looks_now acts reply None
  looks_steps ask None looks_now reply is there a = opens_steps ask looks_now reply is there a
  looks_steps ask (Some held) looks_now reply is there a = open_steps ask held looks_now reply is there a

  pub look_steps : (ask : Ask) (looks_now : List (Option Held)) (reply : Reply) → l.request ≡ requests.Look ask
      → LooksAt new l ask looks (slot looks l.session.0) looks_now reply → Steps looks_now acts reply None
  look_steps ask looks_now reply is a = looks_steps ask (slot looks l.session.0) looks_now reply is refl a

  -- a `finish`
  abbrev Closed : Reply × List (Option Held) → Type 0
  Closed t = Steps t.1 acts t.0 None

  none_steps : l.request ≡ requests.Finish → slot looks l.session.0 ≡ None → Closed (look_closed l.line l.session looks None)
  none_steps is there marks before history sees = (
    no_look_step o.config (length o.entries) o.stored before history (opened_in looks) marks acts l (from marks before history sees) (on marks before history sees) place (sees.looks_in l.session.0) (kept_now marks before history sees)
        None is (slot_map opened_by looks l.session.0 ∙ ap (λ (v : Option Held). option_map opened_by v) there),
    stays marks before history sees None (Refused refusals.NoLook) (accepting_none l l.request (Refused refusals.NoLook)),
  )

  some_steps : (held : Held) (b : Bool) → l.request ≡ requests.Finish → slot looks l.session.0 ≡ Some held → lacks_memory held.ask ≡ b
      → Closed (look_answer l.line l.session looks held b)
  some_steps held true is there read marks before history sees = memory_steps None marks before history sees
  some_steps held false is there read marks before history sees =
      let now : AreHeld o.config history looks = held_now marks before history sees in
      let moment : IsMoment o.config history held = subst (λ (v : Option Held). IsHeld o.config history v) there (now.each l.session.0) in
      let same : put_slot (opened_in looks) l.session.0 None ≡ opened_in (put_slot looks l.session.0 None) =
      sym (put_slot_map opened_by looks l.session.0 None) in (
        subst (λ (xs : List (Option Look)). IsStep o.config (length o.entries) o.stored before history (opened_in looks) xs marks l
            (answered_step l (reply_to l (Some held.n) (held_answer held)) (length history) None)) same
            (subst (λ (a : Answer). IsStep o.config (length o.entries) o.stored before history (opened_in looks) (put_slot (opened_in looks) l.session.0 None) marks l
            (answered_step l (reply_to l (Some held.n) a) (length history) None)) (sym (answer_then o.config history held moment))
            (finish_step o.config (length o.entries) o.stored before history (opened_in looks) marks acts l (from marks before history sees) (on marks before history sees) place (sees.looks_in l.session.0) (kept_now marks before history sees)
            (opened_by held) None (count marks before history sees) is
            (slot_map opened_by looks l.session.0 ∙ ap (λ (v : Option Held). option_map opened_by v) there) read)),
        keeps marks before history sees (put_slot looks l.session.0 None) (reply_to l (Some held.n) (held_answer held))
            (record {
              places = length_put_slot looks l.session.0 None ∙ now.places;
              each = slot_put (λ (v : Option Held). IsHeld o.config history v) looks l.session.0 None tt now.each;
            })
            (tells_none requests.Finish (Some held.n) (held_answer held) is refl),
      )

  closed_steps : (v : Option Held) → l.request ≡ requests.Finish → slot looks l.session.0 ≡ v → Closed (look_closed l.line l.session looks v)
  closed_steps None is there = none_steps is there
  closed_steps (Some held) is there = some_steps held (lacks_memory held.ask) is there refl

  pub finish_steps : (looks_now : List (Option Held)) (reply : Reply) → l.request ≡ requests.Finish → Finishes l looks looks_now reply → Steps looks_now acts reply None
  finish_steps looks_now reply is f = subst Closed (sym f) (closed_steps (slot looks l.session.0) is refl)
