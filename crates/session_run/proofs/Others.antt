-- The lines that are no edits: what the code does is what the core's turn gives.
use Rattle.std.proofs.Common.{◌≡◌, ℕ, zero, suc, ◌≤◌, ◌<◌, Bool, true, false, List, [], ◌∷◌, length, replicate, Option, None, Some, Result, Ok, Err, IfOk, OnErr, inl, inr, refl, sym, ap, ◌∙◌, subst, arith}
use Rattle.emu_names.specs.Count.{RoseBy}
use Rattle.emu_names.specs.declared.shortage.Memory.{Memory}
use Rattle.db_config.specs.declared.parts.ConfigParts.{ConfigParts}
use Rattle.edit_rules.specs.Database.{DatabaseParts}
use Rattle.edit_rules.specs.Effects.{after}
use Rattle.edit_rules.specs.declared.acts.Entry.{Entry}
use Rattle.query_workers.specs.session_core.declared.kept_acts.KeptAct.{KeptAct}
use Rattle.query_workers.specs.session_core.declared.line.Answer.TheVariants.{Done}
use Rattle.query_workers.specs.session_core.declared.line.Ask.{Ask}
use Rattle.query_workers.specs.session_core.declared.line.Line.{Line}
use Rattle.query_workers.specs.session_core.declared.line.Reply.{Reply}
use Rattle.query_workers.specs.session_core.declared.line.Request.{Request}
use Rattle.query_workers.specs.session_core.declared.line.Request.TheVariants as requests
use Rattle.query_workers.specs.session_core.declared.slots.Held.{Held}
use Rattle.query_workers.specs.session_core.Answers.{memory, reply_to}
use Rattle.query_workers.specs.session_core.InOrder.{Outage, fine, at_first, disk_outages, one_turn, query_turn, replied, request_turn}
use Rattle.query_workers.specs.session_core.Inner.Kept.{AreHeld, IsKept, held_at, head_reply, look_closed, looked, opened_in, query_closed, query_reply, state_of}
use Rattle.query_workers.specs.session_core.Queries.{lacks_memory}
use Rattle.query_workers.specs.session_core.Steps.{State, put_slot, query_step, session_places, slot}
use Rattle.query_workers.specs.session_core.Worlds.{act_wanted}
use Rattle.query_workers.proofs.of_session_core.Undoing.{kept_none}
use Rattle.query_workers.proofs.of_session_core.Keeping.{answered_step, begun_step, closed_kept, closed_step, kept_begun, looked_kept, looked_step, slots_empty}
use Rattle.live_book.specs.Commits.{has_journal}
use Rattle.live_book.specs.Kept.{BookParts, faults_in}
use Rattle.session_run.specs.Inner.Orders.{ChangesBook}
use Rattle.session_run.specs.Inner.Taken.{IsAnsweredAt, IsLookedAt, IsTaken, KeepsActs, base_of}
use Rattle.query_workers.specs.session_core.Inner.Told.{head_of, or_memory}

-- no query is under way
abbrev none_asked : List (Option Held)
none_asked = replicate session_places None

-- the state of a configuration, a history, how many entries it began with, and looks
abbrev pub at : ConfigParts → List Entry → ℕ → List (Option Held) → State
at c H base ls = state_of c H base ls none_asked

-- The count of the disk, where it did not fail.

abbrev pub IsQuiet : Bool → Outage → Type 0
IsQuiet stored outage = disk_outages stored (outage ∷ []) ≡ 0

pub calm : (outage : Outage) (stored : Bool) (before now : ℕ) → IsQuiet stored outage → before ≤ now → RoseBy (disk_outages stored (outage ∷ [])) before now
calm outage stored before now quiet later = omega (arith, quiet, later)

pub quiet_at : (stored : Bool) → IsQuiet stored fine
quiet_at false = refl
quiet_at true = refl

pub quiet_first : (stored : Bool) → IsQuiet stored at_first
quiet_first false = refl
quiet_first true = refl

-- A line that leaves the book and what is kept of it.

pub taken_so : {D : Type 0} (may_leave : D → List ℕ → Type 0) (moment : D → ℕ) (left_since : D → ℕ → List ℕ → Type 0) (count : D → ℕ) (old new : BookParts D) (ls ls2 : List (Option Held)) (acts acts2 : List KeptAct) (l : Line) (reply : Reply) (outage : Outage)
    → new ≡ old → acts2 ≡ acts → IsQuiet (has_journal old.journal) outage
    → one_turn (has_journal old.journal) (at old.config old.history (base_of old.history acts) ls) l outage ≡ (reply, at old.config old.history (base_of old.history acts) ls2)
    → act_wanted (at old.config old.history (base_of old.history acts) ls) l.session.0 l.request ≡ None
    → AreHeld old.config old.history ls2 → KeepsActs old.config old.history acts
    → IsTaken may_leave moment left_since count old ls acts l reply new ls2 acts2
taken_so may_leave moment left_since count old new ls ls2 acts acts2 l reply outage same as_was quiet turn wants held keeps =
    subst (λ b. IsTaken may_leave moment left_since count old ls acts l reply b ls2 acts2) (sym same)
    (subst (λ ks. IsTaken may_leave moment left_since count old ls acts l reply old ls2 ks) (sym as_was)
    record {
      answers = record {
        outage = outage;
        turn = turn;
        same = record { config = refl; opened = refl; gate = refl; stored = refl };
        change = subst (λ w. ChangesBook may_leave moment left_since count old l w reply old) (sym wants) refl;
        kept = λ lost keeps. record { left = lost; keeps = keeps; which = inr (inl refl) };
        rose = calm outage (has_journal old.journal) (faults_in count old.journal) (faults_in count old.journal) quiet (omega arith);
        later = omega arith;
      };
      held = held;
      keeps = keeps;
    })

module _ {D : Type 0} (may_leave : D → List ℕ → Type 0) (moment : D → ℕ) (left_since : D → ℕ → List ℕ → Type 0) (count : D → ℕ)
    (old new : BookParts D) (ls : List (Option Held)) (acts : List KeptAct) (l : Line) (same : new ≡ old) (held : AreHeld old.config old.history ls) (keeps : KeepsActs old.config old.history acts) where
  abbrev Taken : Reply → List (Option Held) → Type 0
  Taken reply ls2 = IsTaken may_leave moment left_since count old ls acts l reply new ls2 acts

  -- the state of looks
  abbrev with_looks : List (Option Held) → State
  with_looks ls2 = at old.config old.history (base_of old.history acts) ls2

  abbrev Turns : Request → Outage → Reply → List (Option Held) → Type 0
  Turns request outage reply ls2 = request_turn (has_journal old.journal) (with_looks ls) l request outage ≡ (reply, with_looks ls2)

  -- a request that wants no act
  abbrev Wants : Request → Type 0
  Wants request = act_wanted (with_looks ls) l.session.0 request ≡ None

  done : (request : Request) (reply : Reply) (ls2 : List (Option Held)) → l.request ≡ request → Turns request fine reply ls2 → Wants request → AreHeld old.config old.history ls2 → Taken reply ls2
  done request reply ls2 is turn wants held2 =
      taken_so may_leave moment left_since count old new ls ls2 acts acts l reply fine same refl (quiet_at (has_journal old.journal))
      (subst (λ q. Turns q fine reply ls2) (sym is) turn) (subst (λ q. Wants q) (sym is) wants) held2 keeps

  failed : (request : Request) (ls2 : List (Option Held)) → l.request ≡ request → Turns request at_first (reply_to l None memory) ls → Wants request → ls2 ≡ ls → Taken (reply_to l None memory) ls2
  failed request ls2 is turn wants as_was =
      subst (λ xs. Taken (reply_to l None memory) xs) (sym as_was)
      (taken_so may_leave moment left_since count old new ls ls acts acts l (reply_to l None memory) at_first same refl (quiet_first (has_journal old.journal))
      (subst (λ q. Turns q at_first (reply_to l None memory) ls) (sym is) turn) (subst (λ q. Wants q) (sym is) wants) held keeps)

  -- a `look`
  pub look_taken : (ask : Ask) (ls2 : List (Option Held)) (made : Result Reply Memory) → l.request ≡ requests.Look ask
      → IfOk made (λ r. IsLookedAt old.config old.history (head_of l) ask ls r ls2) → OnErr made (ls2 ≡ ls)
      → Taken (or_memory (head_of l) made) ls2
  look_taken ask ls2 (Ok reply) is ok err =
      let kept : AreHeld old.config old.history (looked (head_of l) ask (length old.history) ok.database ls (slot ls l.session.0)).1 =
      looked_kept old.config (head_of l) ask old.history ok.database ls (slot ls l.session.0) ok.state held in
      done (requests.Look ask) reply ls2 is
      (ap (λ m. replied l m) (looked_step old.config (base_of old.history acts) l ask old.history ok.database ls ls2 none_asked reply ok.made))
      refl
      (subst (λ t. AreHeld old.config old.history t.1) (sym ok.made) kept)
  look_taken ask ls2 (Err want) is ok err = failed (requests.Look ask) ls2 is refl refl err

  -- a `finish`
  pub finish_taken : (ls2 : List (Option Held)) (made : Result Reply Memory) → l.request ≡ requests.Finish
      → IfOk made (λ r. (r, ls2) ≡ look_closed l.line l.session ls (slot ls l.session.0)) → OnErr made (ls2 ≡ ls)
      → Taken (or_memory (head_of l) made) ls2
  finish_taken ls2 (Ok reply) is ok err =
      done requests.Finish reply ls2 is
      (ap (λ m. replied l m) (closed_step old.config (base_of old.history acts) l.line l.session old.history ls ls2 none_asked reply ok held))
      refl
      (subst (λ t. AreHeld old.config old.history t.1) (sym ok) (closed_kept old.config l.line l.session old.history ls (slot ls l.session.0) held))
  finish_taken ls2 (Err want) is ok err = failed requests.Finish ls2 is refl refl err

  -- an `after`
  pub after_taken : (earlier n : ℕ) (reply : Reply) → l.request ≡ requests.After earlier → n ≡ length old.history
      → reply ≡ head_reply (head_of l) (Some n) (Done l.command) → Taken reply ls
  after_taken earlier n reply is number told =
      done (requests.After earlier) reply ls is
      (ap (λ k. (reply_to l (Some k) (Done l.command), with_looks ls)) (sym number) ∙ ap (λ r. (r, with_looks ls)) (sym told))
      refl held

-- A query.

slot_at : {A : Type 0} (xs : List (Option A)) (s : ℕ) (v : Option A) → s < length xs → slot (put_slot xs s v) s ≡ v
slot_at [] s v within = absurd (omega arith)
slot_at (x ∷ xs) zero v within = refl
slot_at (x ∷ xs) (suc s) v within = slot_at xs s v (omega arith)

put_back : {A : Type 0} (n s : ℕ) (v : Option A) → put_slot (put_slot (replicate n None) s v) s None ≡ replicate n None
put_back zero s v = refl
put_back (suc n) zero v = refl
put_back (suc n) (suc s) v = ap (λ xs. None ∷ xs) (put_back n s v)

module _ (c : ConfigParts) (H : List Entry) (base : ℕ) (ls : List (Option Held)) (l : Line) (ask : Ask) (database : DatabaseParts)
    (place : l.session.0 < session_places) (state : after c H ≡ Ok database) (held : AreHeld c H ls) where
  -- the query that is under way
  abbrev asked_now : Held
  asked_now = held_at (head_of l) ask (length H) database

  abbrev under_way : List (Option Held)
  under_way = put_slot none_asked l.session.0 (Some asked_now)

  kept : IsKept c H (length H) database [] ls under_way
  kept =
      kept_begun c (length H) [] (head_of l) ask H database ls none_asked
      (record { present = state; begun = omega arith; taking_back = sym (kept_none c H); of_looks = held; of_queries = slots_empty c H })

  closed : query_closed l.line l.session under_way (slot under_way l.session.0) ≡ (Some (query_reply l.line l.session asked_now (lacks_memory ask)), none_asked)
  closed =
      ap (λ o. query_closed l.line l.session under_way o) (slot_at none_asked l.session.0 (Some asked_now) place)
      ∙ ap (λ qs. (Some (query_reply l.line l.session asked_now (lacks_memory ask)), qs)) (put_back session_places l.session.0 (Some asked_now))

  answered : query_step (state_of c H base ls under_way) l.line l.session (slot (opened_in under_way) l.session.0)
      ≡ (Some (query_reply l.line l.session asked_now (lacks_memory ask)), at c H base ls)
  answered = answered_step c base l.line l.session H ls under_way none_asked (Some (query_reply l.line l.session asked_now (lacks_memory ask))) (sym closed) kept.of_queries

  abbrev steps_on : State → Reply × State
  steps_on st = replied l (query_step st l.line l.session (slot st.queries l.session.0))

  asked_turn : (stored : Bool) → query_turn (at c H base ls) l ask fine ≡ (query_reply l.line l.session asked_now (lacks_memory ask), at c H base ls)
  asked_turn stored =
      ap steps_on (begun_step c base l ask H database ls none_asked) ∙ ap (λ m. replied l m) answered

pub query_taken : {D : Type 0} (may_leave : D → List ℕ → Type 0) (moment : D → ℕ) (left_since : D → ℕ → List ℕ → Type 0) (count : D → ℕ) (old new : BookParts D) (ls : List (Option Held)) (acts : List KeptAct) (l : Line)
    → new ≡ old → AreHeld old.config old.history ls → KeepsActs old.config old.history acts
    → (ask : Ask) (made : Result Reply Memory) → l.request ≡ requests.Query ask → l.session.0 < session_places
    → IfOk made (λ r. IsAnsweredAt old.config old.history (head_of l) ask r)
    → IsTaken may_leave moment left_since count old ls acts l (or_memory (head_of l) made) new ls acts
query_taken may_leave moment left_since count old new ls acts l same held keeps ask (Ok reply) is place ok =
    done may_leave moment left_since count old new ls acts l same held keeps (requests.Query ask) reply ls is
    (asked_turn old.config old.history (base_of old.history acts) ls l ask ok.database place ok.state held (has_journal old.journal)
    ∙ ap (λ r. (r, at old.config old.history (base_of old.history acts) ls)) (sym ok.made))
    refl held
query_taken may_leave moment left_since count old new ls acts l same held keeps ask (Err want) is place ok =
    failed may_leave moment left_since count old new ls acts l same held keeps (requests.Query ask) ls is refl refl refl
