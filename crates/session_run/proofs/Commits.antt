-- The line of an edit: what a commit answers is what the core's turn gives.
use Rattle.std.proofs.Common.{◌≡◌, ℕ, ◌+◌, Bool, true, false, List, [], ◌∷◌, ◌++◌, length, Option, None, Some, Result, Ok, Err, inl, inr, ⊎_elim, refl, sym, ap, ◌∙◌, subst, arith}
use Rattle.std.proofs.lemmas.Bool.Decides.{nat_tests}
use Rattle.emu_names.specs.Count.{RoseBy}
use Rattle.emu_names.specs.declared.limits.TheConstants.{HISTORY_EDITS}
use Rattle.edit_rules.specs.declared.acts.Breach.{Breach}
use Rattle.db_config.specs.declared.parts.ConfigParts.{ConfigParts}
use Rattle.textgrid.specs.declared.fault.GridFault.{GridFault}
use Rattle.edit_rules.specs.Database.{DatabaseParts}
use Rattle.edit_rules.specs.Effects.{edited}
use Rattle.edit_rules.specs.declared.acts.Act.{Act}
use Rattle.edit_rules.specs.declared.acts.Entry.{Entry}
use Rattle.live_book.specs.edit_undo.declared.faults.NoUndo.{NoUndo}
use Rattle.query_workers.specs.session_core.declared.kept_acts.KeptAct.{KeptAct}
use Rattle.query_workers.specs.session_core.declared.line.Answer.TheVariants.{Done, Refused}
use Rattle.query_workers.specs.session_core.declared.line.Line.{Line}
use Rattle.query_workers.specs.session_core.declared.line.Refusal.TheVariants as refusals
use Rattle.query_workers.specs.session_core.declared.line.Reply.{Reply}
use Rattle.query_workers.specs.session_core.declared.line.Request.{Request}
use Rattle.query_workers.specs.session_core.declared.line.Request.TheVariants as requests
use Rattle.query_workers.specs.session_core.declared.head.Head.{Head}
use Rattle.query_workers.specs.session_core.declared.slots.Held.{Held}
use Rattle.query_workers.specs.session_core.Answers.{entry_of, memory, reply_to, rule_refusal}
use Rattle.query_workers.specs.session_core.InOrder.{Outage, fine, at_first, disk_fails, disk_outages, edit_outcome, edit_trouble, edit_turn, made_trouble, one_turn, replied, request_turn, stored_trouble, trouble_at, undo_turn}
use Rattle.query_workers.specs.session_core.Inner.Kept.{AreHeld, grid_told, head_entry, head_reply}
use Rattle.query_workers.specs.session_core.Steps.{State, edit_made, edit_step, is_full, taking_back}
use Rattle.query_workers.specs.session_core.Undos.{latest_of, undo_refusal}
use Rattle.query_workers.specs.session_core.Worlds.{Trouble, act_back, act_wanted, untroubled, store_full, disk_failed, passes_store}
use Rattle.query_workers.proofs.of_session_core.Keeping.{slots_longer}
use Rattle.edit_rules.specs.declared.commit_fault.EditFault.{EditFault}
use Rattle.edit_rules.specs.declared.commit_fault.EditFault.TheVariants as faults
use Rattle.live_book.specs.Commits.{Commits, HasRoom, IsSameBook, IsTooMuch, LeavesKept, has_journal, history_behind}
use Rattle.live_book.specs.Inner.Inverses.{numbered}
use Rattle.live_book.specs.Kept.{BookParts, KeepsIn, faults_in}
use Rattle.session_run.specs.Inner.Orders.{ChangesBook, LeftBehind}
use Rattle.query_workers.specs.session_core.Inner.Told.{commit_reply, head_of}
use Rattle.session_run.specs.Inner.Taken.{CommitsAct, EditsBook, IsTaken, KeepsActs, LeavesBook, UndoesBook, base_of}
use Rattle.session_run.proofs.Others.{at, calm, quiet_at, taken_so}
use Rattle.session_run.proofs.Undos.{acts_now, base_now}
use Rattle.live_book.proofs.Sizes.{fits_so, passes_so}

-- What keeps an edit from its step.

has_room : (history : List Entry) → HasRoom history → is_full history ≡ false
has_room history room = grind (arith, nat_tests)

has_none : (history : List Entry) → length history ≡ HISTORY_EDITS → is_full history ≡ true
has_none history full = grind (arith, nat_tests)

module _ (c : ConfigParts) (H : List Entry) (base : ℕ) (ls : List (Option Held)) (l : Line) (act : Act) where
  -- a full history meets neither the store nor the disk
  full_calm : (stored fails : Bool) → is_full H ≡ true → edit_trouble stored (at c H base ls) l act fails ≡ untroubled
  full_calm false fails full = refl
  full_calm true fails full = ap (λ f. made_trouble (at c H base ls) l act fails f (edited c H act)) full

  module _ (room : is_full H ≡ false) where
    trouble_of : (fails : Bool) (r : Result DatabaseParts Breach) → edited c H act ≡ r → edit_trouble true (at c H base ls) l act fails ≡ made_trouble (at c H base ls) l act fails false r
    trouble_of fails r is =
        ap (λ f. made_trouble (at c H base ls) l act fails f (edited c H act)) room
        ∙ ap (λ m. made_trouble (at c H base ls) l act fails false m) is

    -- neither does an edit that breaks a rule
    broken_calm : (stored : Bool) (breach : Breach) → edited c H act ≡ Err breach → edit_trouble stored (at c H base ls) l act false ≡ untroubled
    broken_calm false breach is = refl
    broken_calm true breach is = trouble_of false (Err breach) is

    -- the store has room, or not
    stored_so : (fails passes : Bool) (database : DatabaseParts) → edited c H act ≡ Ok database → passes_store c H (entry_of l act) ≡ passes → edit_trouble true (at c H base ls) l act fails ≡ stored_trouble passes fails
    stored_so fails passes database is so = trouble_of fails (Ok database) is ∙ ap (λ p. stored_trouble p fails) so

    fits_calm : (stored : Bool) (database : DatabaseParts) → edited c H act ≡ Ok database → (IsTooMuch stored c H (entry_of l act) → ⊥) → edit_trouble stored (at c H base ls) l act false ≡ untroubled
    fits_calm false database is fits = refl
    fits_calm true database is fits = stored_so false false database is (fits_so c H (entry_of l act) (λ passes. fits (refl, passes)))

    -- the step of an edit that is tried
    step_of : (r : Result DatabaseParts Breach) → edited c H act ≡ r → edit_step (at c H base ls) l act (is_full H) (edited c H act) ≡ edit_made (at c H base ls) l act r
    step_of r is =
        ap (λ f. edit_step (at c H base ls) l act f (edited c H act)) room ∙ ap (λ m. edit_step (at c H base ls) l act false m) is

  -- a turn by what keeps the edit from its step
  turn_of : (stored : Bool) (outage : Outage) (t : Trouble) (made : Option Reply × State) → trouble_at stored (at c H base ls) l act outage ≡ t → edit_outcome (at c H base ls) l act t ≡ made
      → edit_turn stored (at c H base ls) l act outage ≡ replied l made
  turn_of stored outage t made trouble outcome =
      ap (λ u. replied l (edit_outcome (at c H base ls) l act u)) trouble ∙ ap (λ m. replied l m) outcome

-- The turn of each answer.

module _ {D : Type 0} (may_leave : D → List ℕ → Type 0) (moment : D → ℕ) (left_since : D → ℕ → List ℕ → Type 0) (count : D → ℕ)
    (old new : BookParts D) (base : ℕ) (ls : List (Option Held)) (l : Line) (act : Act) where
  -- the request of the line is this edit
  abbrev Turns : Reply → Type 0
  Turns reply = (outage : Outage) × (edit_turn (has_journal old.journal) (at old.config old.history base ls) l act outage ≡ (reply, at new.config new.history base ls))
      × RoseBy (disk_outages (has_journal old.journal) (outage ∷ [])) (faults_in count old.journal) (faults_in count new.journal)

  -- the state behind a commit
  behind : (made : Result ℕ EditFault) → IsSameBook old new → new.history ≡ history_behind old.history (entry_of l act) made
      → at old.config (history_behind old.history (entry_of l act) made) base ls ≡ at new.config new.history base ls
  behind made same history = ap (λ c. at c (history_behind old.history (entry_of l act) made) base ls) (sym same.config) ∙ ap (λ H. at new.config H base ls) (sym history)

  turns : (made : Result ℕ EditFault) → Commits may_leave moment left_since count old (entry_of l act) made new → Turns (commit_reply l made)
  turns (Ok n) did =
      let welcome = did.right.1 in
      let room : is_full old.history ≡ false = has_room old.history welcome.room in
      let number : length old.history + 1 ≡ n = omega (arith, did.right.0) in
      let told : Option Reply × State → Reply × State = λ m. replied l m in (
        fine,
        turn_of old.config old.history base ls l act (has_journal old.journal) fine untroubled _
            (fits_calm old.config old.history base ls l act room (has_journal old.journal) welcome.breaks_none.0 welcome.breaks_none.1 welcome.fits)
            (step_of old.config old.history base ls l act room (Ok welcome.breaks_none.0) welcome.breaks_none.1)
            ∙ ap (λ k. (reply_to l (Some k) (Done l.command), at old.config (old.history ++ entry_of l act ∷ []) base ls)) number
            ∙ ap (λ st. (reply_to l (Some n) (Done l.command), st)) (behind (Ok n) did.same did.history),
        calm fine (has_journal old.journal) (faults_in count old.journal) (faults_in count new.journal) (quiet_at (has_journal old.journal)) did.later,
      )
  turns (Err (faults.HistoryFull n)) did =
      let full : is_full old.history ≡ true = has_none old.history did.right.1 in (
        fine,
        turn_of old.config old.history base ls l act (has_journal old.journal) fine untroubled _
            (full_calm old.config old.history base ls l act (has_journal old.journal) false full)
            (ap (λ f. edit_step (at old.config old.history base ls) l act f (edited old.config old.history act)) full)
            ∙ ap (λ k. (reply_to l (Some k) (Refused refusals.HistoryFull), at old.config old.history base ls)) (sym did.right.0)
            ∙ ap (λ st. (reply_to l (Some n) (Refused refusals.HistoryFull), st)) (behind (Err (faults.HistoryFull n)) did.same did.history),
        calm fine (has_journal old.journal) (faults_in count old.journal) (faults_in count new.journal) (quiet_at (has_journal old.journal)) did.later,
      )
  turns (Err (faults.Broken breach n)) did =
      let room : is_full old.history ≡ false = has_room old.history did.right.1 in (
        fine,
        turn_of old.config old.history base ls l act (has_journal old.journal) fine untroubled _
            (broken_calm old.config old.history base ls l act room (has_journal old.journal) breach did.right.2)
            (step_of old.config old.history base ls l act room (Err breach) did.right.2)
            ∙ ap (λ k. (reply_to l (Some k) (Refused (rule_refusal l.command breach)), at old.config old.history base ls)) (sym did.right.0)
            ∙ ap (λ st. (reply_to l (Some n) (Refused (rule_refusal l.command breach)), st)) (behind (Err (faults.Broken breach n)) did.same did.history),
        calm fine (has_journal old.journal) (faults_in count old.journal) (faults_in count new.journal) (quiet_at (has_journal old.journal)) did.later,
      )
  turns (Err (faults.StoreFull n)) did =
      let room : is_full old.history ≡ false = has_room old.history did.right.1 in
      let stored : has_journal old.journal ≡ true = did.right.3.0 in
      let passes : passes_store old.config old.history (entry_of l act) ≡ true = passes_so old.config old.history (entry_of l act) did.right.3.1 in (
        fine,
        turn_of old.config old.history base ls l act (has_journal old.journal) fine store_full _
            (ap (λ b. edit_trouble b (at old.config old.history base ls) l act false) stored
            ∙ stored_so old.config old.history base ls l act room false true did.right.2.0 did.right.2.1 passes)
            refl
            ∙ ap (λ k. (reply_to l (Some k) (Refused refusals.StoreFull), at old.config old.history base ls)) (sym did.right.0)
            ∙ ap (λ st. (reply_to l (Some n) (Refused refusals.StoreFull), st)) (behind (Err (faults.StoreFull n)) did.same did.history),
        calm fine (has_journal old.journal) (faults_in count old.journal) (faults_in count new.journal) (quiet_at (has_journal old.journal)) did.later,
      )
  turns (Err faults.Disk) did =
      let welcome = did.right.1 in
      let room : is_full old.history ≡ false = has_room old.history welcome.room in
      let stored : has_journal old.journal ≡ true = did.right.0 in
      let fits : passes_store old.config old.history (entry_of l act) ≡ false = fits_so old.config old.history (entry_of l act) (λ passes. welcome.fits (stored, passes)) in (
        disk_fails,
        turn_of old.config old.history base ls l act (has_journal old.journal) disk_fails disk_failed _
            (ap (λ b. edit_trouble b (at old.config old.history base ls) l act true) stored
            ∙ stored_so old.config old.history base ls l act room true false welcome.breaks_none.0 welcome.breaks_none.1 fits)
            refl
            ∙ ap (λ st. (reply_to l None (Refused refusals.Disk), st)) (behind (Err faults.Disk) did.same did.history),
        subst (λ b. RoseBy (disk_outages b (disk_fails ∷ [])) (faults_in count old.journal) (faults_in count new.journal)) (sym stored) (did.disk refl),
      )
  turns (Err faults.Memory) did = (
    at_first,
    ap (λ st. (reply_to l None memory, st)) (behind (Err faults.Memory) did.same did.history),
    calm at_first (has_journal old.journal) (faults_in count old.journal) (faults_in count new.journal) (quiet_at (has_journal old.journal)) did.later,
  )

  -- what is held is of its moment still
  held_behind : (made : Result ℕ EditFault) → AreHeld old.config old.history ls → AreHeld old.config (history_behind old.history (entry_of l act) made) ls
  held_behind (Ok n) held = slots_longer old.config old.history (entry_of l act ∷ []) ls held
  held_behind (Err fault) held = held

  held_now : (made : Result ℕ EditFault) → IsSameBook old new → new.history ≡ history_behind old.history (entry_of l act) made → AreHeld old.config old.history ls → AreHeld new.config new.history ls
  held_now made same history held =
      subst (λ c. AreHeld c new.history ls) (sym same.config)
      (subst (λ H. AreHeld old.config H ls) (sym history) (held_behind made held))

  -- the journal behind a commit
  keeps_now : (left : Option Entry) (made : Result ℕ EditFault) → IsSameBook old new → new.history ≡ history_behind old.history (entry_of l act) made
      → KeepsIn may_leave old.config (history_behind old.history (entry_of l act) made) left new.journal → KeepsIn may_leave new.config new.history left new.journal
  keeps_now left made same history keeps =
      subst (λ c. KeepsIn may_leave c new.history left new.journal) (sym same.config)
      (subst (λ H. KeepsIn may_leave old.config H left new.journal) (sym history) keeps)

  as_was : (lost : Option Entry) (reply : Reply) (made : Result ℕ EditFault) → IsSameBook old new → new.history ≡ history_behind old.history (entry_of l act) made
      → KeepsIn may_leave old.config (history_behind old.history (entry_of l act) made) lost new.journal → LeftBehind may_leave (at old.config old.history base ls) l reply lost new
  as_was lost reply made same history keeps = record { left = lost; keeps = keeps_now lost made same history keeps; which = inr (inl refl) }

  left_so : (lost : Option Entry) (made : Result ℕ EditFault) → act_wanted (at old.config old.history base ls) l.session.0 l.request ≡ Some act → IsSameBook old new → new.history ≡ history_behind old.history (entry_of l act) made
      → LeavesKept may_leave old.config old.history lost (entry_of l act) made new.journal → LeftBehind may_leave (at old.config old.history base ls) l (commit_reply l made) lost new
  left_so lost (Ok n) is same history leaves = record { left = None; keeps = keeps_now None (Ok n) same history leaves; which = inl refl }
  left_so lost (Err (faults.HistoryFull n)) is same history leaves = as_was lost _ (Err (faults.HistoryFull n)) same history leaves
  left_so lost (Err (faults.Broken breach n)) is same history leaves = as_was lost _ (Err (faults.Broken breach n)) same history leaves
  left_so lost (Err (faults.StoreFull n)) is same history leaves = as_was lost _ (Err (faults.StoreFull n)) same history leaves
  left_so lost (Err faults.Memory) is same history leaves = as_was lost _ (Err faults.Memory) same history leaves
  left_so lost (Err faults.Disk) is same history leaves = record {
    left = leaves.left;
    keeps = keeps_now leaves.left (Err faults.Disk) same history leaves.keeps;
    which = ⊎_elim (λ none. inl none)
        (λ some. ⊎_elim (λ before. inr (inl before)) (λ next. inr (inr (entry_of l act, next, record { act = act; asks = is; entry = refl; refused = refl }))) some)
        leaves.which;
  }

-- A line whose act was committed.

module _ {D : Type 0} (may_leave : D → List ℕ → Type 0) (moment : D → ℕ) (left_since : D → ℕ → List ℕ → Type 0) (count : D → ℕ)
    (old new : BookParts D) (ls : List (Option Held)) (acts acts2 : List KeptAct) (l : Line) (reply : Reply) (held : AreHeld old.config old.history ls) (keeps : KeepsActs old.config old.history acts) where
  -- the state before the line
  abbrev before : State
  before = at old.config old.history (base_of old.history acts) ls

  committed : (act : Act) → ((outage : Outage) → one_turn (has_journal old.journal) before l outage ≡ edit_turn (has_journal old.journal) before l act outage)
      → act_wanted before l.session.0 l.request ≡ Some act → CommitsAct may_leave moment left_since count old acts (head_of l) act reply new acts2
      → IsTaken may_leave moment left_since count old ls acts l reply new ls acts2
  committed act turn wants does =
      let did = does.commits in
      let made : Result ℕ EditFault = numbered does.made in
      let told : reply ≡ commit_reply l made = does.told l.request in
      let base : base_of new.history acts2 ≡ base_of old.history acts = base_now (head_of l) act old.history new.history acts acts2 does.made did.history does.behind in
      let turned = turns may_leave moment left_since count old new (base_of old.history acts) ls l act made did in
      record {
        answers = record {
          outage = turned.0;
          turn = turn turned.0 ∙ turned.1 ∙ ap (λ r. (r, at new.config new.history (base_of old.history acts) ls)) (sym told)
              ∙ ap (λ n. (reply, at new.config new.history n ls)) (sym base);
          same = did.same;
          change = subst (λ w. ChangesBook may_leave moment left_since count old l w reply new) (sym wants) (record { made = made; commits = did; told = told });
          kept = λ lost keeps. subst (λ r. LeftBehind may_leave before l r lost new) (sym told)
              (left_so may_leave moment left_since count old new (base_of old.history acts) ls l act lost made wants did.same did.history (did.kept lost keeps));
          rose = turned.2;
          later = did.later;
        };
        held = held_now may_leave moment left_since count old new (base_of old.history acts) ls l act made did.same did.history held;
        keeps = acts_now (head_of l) act old.history new.history acts acts2 old.config new.config does.made did.same.config did.history does.behind does.inverse keeps;
      }

  -- a line that leaves the book
  left : (answered : Reply) → one_turn (has_journal old.journal) before l fine ≡ (answered, before) → act_wanted before l.session.0 l.request ≡ None
      → LeavesBook old acts answered reply new acts2 → IsTaken may_leave moment left_since count old ls acts l reply new ls acts2
  left answered turn wants does =
      taken_so may_leave moment left_since count old new ls ls acts acts2 l reply fine does.book does.behind (quiet_at (has_journal old.journal))
      (turn ∙ ap (λ r. (r, before)) (sym does.told)) wants held keeps

  -- an edit, or the fault of a TextGrid
  pub edit_taken : (given : Result Act GridFault) → l.request ≡ requests.Edit given → EditsBook may_leave moment left_since count old acts (head_of l) given reply new acts2
      → IsTaken may_leave moment left_since count old ls acts l reply new ls acts2
  edit_taken (Ok act) is does =
      committed act (λ outage. ap (λ r. request_turn (has_journal old.journal) before l r outage) is) (ap (λ r. act_wanted before l.session.0 r) is) does
  edit_taken (Err fault) is does =
      left (grid_told (head_of l) (length old.history) fault) (ap (λ r. request_turn (has_journal old.journal) before l r fine) is) (ap (λ r. act_wanted before l.session.0 r) is) does

  -- an `undo`, by what takes back the line that it names
  module _ (earlier : ℕ) (is : l.request ≡ requests.Undo earlier) where
    found_turn : (found : Option (Result Act NoUndo)) → taking_back before l.session.0 earlier ≡ found → (outage : Outage) → one_turn (has_journal old.journal) before l outage ≡ undo_turn (has_journal old.journal) before l found outage
    found_turn found at_line outage =
        ap (λ r. request_turn (has_journal old.journal) before l r outage) is ∙ ap (λ f. undo_turn (has_journal old.journal) before l f outage) at_line

    found_wanted : (found : Option (Result Act NoUndo)) → taking_back before l.session.0 earlier ≡ found → act_wanted before l.session.0 l.request ≡ act_back found
    found_wanted found at_line = ap (λ r. act_wanted before l.session.0 r) is ∙ ap (λ f. act_back f) at_line

    by_found : (found : Option (Result Act NoUndo)) → taking_back before l.session.0 earlier ≡ found → UndoesBook may_leave moment left_since count old acts (head_of l) found reply new acts2
        → IsTaken may_leave moment left_since count old ls acts l reply new ls acts2
    by_found None at_line does =
        left (reply_to l None (Refused refusals.NotAccepted)) (found_turn None at_line fine) (found_wanted None at_line) does
    by_found (Some (Err fault)) at_line does =
        left (reply_to l None (Refused (undo_refusal fault))) (found_turn (Some (Err fault)) at_line fine) (found_wanted (Some (Err fault)) at_line) does
    by_found (Some (Ok act)) at_line does = committed act (found_turn (Some (Ok act)) at_line) (found_wanted (Some (Ok act)) at_line) does

    pub undo_taken : UndoesBook may_leave moment left_since count old acts (head_of l) (latest_of l.session.0 earlier acts) reply new acts2
        → IsTaken may_leave moment left_since count old ls acts l reply new ls acts2
    undo_taken does = by_found (latest_of l.session.0 earlier acts) (sym (ap (λ ks. latest_of l.session.0 earlier ks) keeps)) does

-- An act that was not tried, since memory ran out.

pub wanting : {D : Type 0} (may_leave : D → List ℕ → Type 0) (moment : D → ℕ) (left_since : D → ℕ → List ℕ → Type 0) (count : D → ℕ) (old : BookParts D) (acts acts2 : List KeptAct) (head : Head) (act : Act) (reply : Reply)
    → Commits may_leave moment left_since count old (head_entry head act) (Err faults.Memory) old → acts2 ≡ acts → reply ≡ head_reply head None memory
    → CommitsAct may_leave moment left_since count old acts head act reply old acts2
wanting may_leave moment left_since count old acts acts2 head act reply commits behind told =
    record { made = Err faults.Memory; commits = commits; inverse = tt; told = λ request. told; behind = behind }

-- a pass of the old book's gate is one of the new book's
module _ {D : Type 0} (may_leave : D → List ℕ → Type 0) (moment : D → ℕ) (left_since : D → ℕ → List ℕ → Type 0) (count : D → ℕ) (old new : BookParts D) (acts acts2 : List KeptAct) (head : Head) (reply : Reply) where
  pub gate_kept : (given : Result Act GridFault) → EditsBook may_leave moment left_since count old acts head given reply new acts2 → old.gate ≡ new.gate
  gate_kept (Ok act) does = sym does.commits.same.gate
  gate_kept (Err fault) does = ap (λ b. b.gate) (sym does.book)

  pub gate_undone : (found : Option (Result Act NoUndo)) → UndoesBook may_leave moment left_since count old acts head found reply new acts2 → old.gate ≡ new.gate
  gate_undone None does = ap (λ b. b.gate) (sym does.book)
  gate_undone (Some (Err fault)) does = ap (λ b. b.gate) (sym does.book)
  gate_undone (Some (Ok act)) does = sym does.commits.same.gate
