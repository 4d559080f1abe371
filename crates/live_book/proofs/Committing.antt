-- What a commit owes: the checks before the disk is called, and the book behind each answer.
use Rattle.std.proofs.Common.{◌≡◌, ◌⊎◌, inl, inr, ⊎_elim, true, Bool, ℕ, ◌+◌, List, [], ◌∷◌, ◌++◌, length, take, drop, Option, None, Some, Result, Ok, Err, OnErr, IsErrOf, IsTrue, refl, sym, ◌∙◌, ap, subst, arith, length-append, take-append-drop}
use Rattle.std.specs.Arc.{arc_value}
use Rattle.std.proofs.lemmas.List.{take-append-le, drop-append-le}
use Rattle.db_config.specs.declared.parts.ConfigParts.{ConfigParts}
use Rattle.version_steps.specs.edit_rules.declared.acts.ChangeFault.{ChangeFault}
use Rattle.version_steps.specs.edit_rules.declared.acts.ChangeFault.TheVariants as faults
use Rattle.version_steps.specs.edit_rules.declared.acts.Entry.{Entry}
use Rattle.version_steps.specs.edit_rules.Effects.{effect}
use Rattle.version_steps.specs.edit_rules.Inner.Effects.{IsFirstBreach}
use Rattle.emu_disk.proofs.Moments.{weaker}
use Rattle.edit_journal.specs.declared.journal.Journal.{Journal}
use Rattle.edit_journal.specs.Held.{disk_of}
use Rattle.version_gate.specs.declared.entry.Entry.{Entry as Numbered}
use Rattle.version_gate.specs.Lists.{entry}
use Rattle.version_gate.specs.Inner.Lists.{Board}
use Rattle.version_steps.specs.version_tree.Version.{VersionParts, state_of}
use Rattle.live_book.specs.declared.commit.Ready.{Ready}
use Rattle.version_steps.specs.edit_rules.declared.commit_fault.EditFault.{EditFault}
use Rattle.version_steps.specs.edit_rules.declared.commit_fault.EditFault.TheVariants as edit_faults
use Rattle.live_book.specs.declared.published.Published.{Published}
use Rattle.live_book.specs.Published.{IsStateAfter, IsShown, AreShown}
use Rattle.live_book.specs.Kept.{BookParts, KeepsIn, IsAsBefore, CrashLeaves}
use Rattle.live_book.specs.Inner.Kept.{DuringStore, HasConfigSince, Holding, IsBookOf, since_behind}
use Rattle.live_book.specs.Commits.{has_journal, HasRoom, BreaksNone, IsTooMuch, IsWelcome, IsAnswer, LeavesKept, DuringCommit, Commits}
use Rattle.live_book.specs.Inner.Prepared.{MayFollowIn, HasRoomFor, HoldsSome, IsReady, refusal_of}
use Rattle.live_book.proofs.Configs.{settled_behind}
use Rattle.live_book.proofs.States.{edited_as}
use Rattle.live_book.proofs.Storing.{quiet}
use Rattle.live_book.proofs.Showing.{shown-push}

-- Before the disk is called.

module _ (config : ConfigParts) (history : List Entry) (next : Entry) (version : VersionParts) (state : IsStateAfter config history version) where
  pub breaks_none : (new : VersionParts) → effect (state_of version) next.act ≡ Ok (state_of new) → BreaksNone config history next.act
  breaks_none new is = (state_of new, edited_as config history next version state (Ok (state_of new)) is)

  -- a refusal by a rule
  pub refused : (stored : Bool) (fault : ChangeFault) (n : ℕ) → n ≡ length history → HasRoom history → IsFirstBreach fault (effect (state_of version) next.act) → IsAnswer stored config history next (Err (refusal_of fault n))
  refused stored (faults.Broken breach) n is room broken = (is, room, edited_as config history next version state (Err breach) broken)
  refused stored faults.Memory n is room broken = tt

pub no_disk : (fault : ChangeFault) (n : ℕ) → IsErrOf {T = ℕ} (Err (refusal_of fault n)) edit_faults.Disk → ⊥
no_disk (faults.Broken breach) n is = absurd cc
no_disk faults.Memory n is = absurd cc

-- the store is full
pub store_full : (stored : Bool) (config : ConfigParts) (history : List Entry) (next : Entry) (n : ℕ) → n ≡ length history → HasRoom history → BreaksNone config history next.act → IsTooMuch stored config history next
    → IsAnswer stored config history next (Err (edit_faults.StoreFull n))
store_full stored config history next n is room none much = (is, room, none, much)

pub on_any : (r : Result (Unit {0}) EditFault) (P : Type 0) → P → OnErr r P
on_any (Ok v) P is = tt
on_any (Err fault) P is = is

-- The journal.

module _ {D : Type 0} (may_leave : D → List ℕ → Type 0) where
  pub some_history : (config : ConfigParts) (history : List Entry) (journal : Option (Journal D)) → Holding may_leave config history journal → HoldsSome may_leave journal
  some_history config history journal holding = (config, history, holding)

  pub room_for : (config : ConfigParts) (history : List Entry) (next : Entry) (journal : Option (Journal D)) → Holding may_leave config history journal → IsWelcome (has_journal journal) config history next → HasRoomFor may_leave (has_journal journal) next journal
  room_for config history next journal holding welcome = (config, history, holding.0, holding.1, welcome.fits)

  pub crash_weaker : (moment : D → ℕ) (left_since : D → ℕ → List ℕ → Type 0) (old new : Option (Journal D)) (P Q : List ℕ → Type 0) → ((c : List ℕ) → P c → Q c) → CrashLeaves moment left_since old new P → CrashLeaves moment left_since old new Q
  crash_weaker moment left_since None None P Q change leaves = tt
  crash_weaker moment left_since None (Some new) P Q change leaves = absurd leaves
  crash_weaker moment left_since (Some old) None P Q change leaves = absurd leaves
  crash_weaker moment left_since (Some old) (Some new) P Q change leaves = weaker moment left_since (disk_of old) (disk_of new) P Q change leaves

pub ok_moment : (config : ConfigParts) (history : List Entry) (lost : Option Entry) (next : Entry) (c : List ℕ) → DuringStore config history lost next c → DuringCommit {T = Unit {0}} (Ok tt) config history lost next c
ok_moment config history lost next c has = ⊎_elim (λ before. inl before) (λ more. inr (tt, more)) has

pub disk_moment : (T : Type 0) (config : ConfigParts) (history : List Entry) (lost : Option Entry) (next : Entry) (c : List ℕ) → DuringStore config history lost next c → DuringCommit {T = T} (Err edit_faults.Disk) config history lost next c
disk_moment T config history lost next c has = ⊎_elim (λ before. inl before) (λ more. inr (tt, more)) has

-- Behind an answer.

pub follows_in : {D : Type 0} (config : ConfigParts) (history : List Entry) (journal : Option (Journal D)) (ready : Ready) → HasRoom history → IsReady journal config history ready → MayFollowIn journal config history ready.entry
follows_in config history None ready room is = tt
follows_in config history (Some journal) ready room is = record {
  coded = is.coded refl;
  is_history = record {
    legal = (state_of (arc_value ready.next).version, is.version.state);
    few = omega (arith, room, length-append history (ready.entry ∷ []));
  };
}

-- which refusals come from the disk
pub put_right : (stored : Bool) (config : ConfigParts) (history : List Entry) (next : Entry) (fault : EditFault) → IsErrOf {T = Unit {0}} (Err fault) edit_faults.Disk ⊎ IsErrOf {T = Unit {0}} (Err fault) edit_faults.Memory
    → (IsErrOf {T = Unit {0}} (Err fault) edit_faults.Disk → stored ≡ true) → IsWelcome stored config history next → IsAnswer stored config history next (Err fault)
put_right stored config history next (edit_faults.HistoryFull n) which only welcome = absurd (⊎_elim (λ d. cc) (λ m. cc) which)
put_right stored config history next (edit_faults.Broken breach n) which only welcome = absurd (⊎_elim (λ d. cc) (λ m. cc) which)
put_right stored config history next (edit_faults.StoreFull n) which only welcome = absurd (⊎_elim (λ d. cc) (λ m. cc) which)
put_right stored config history next edit_faults.Disk which only welcome = (only refl, welcome)
put_right stored config history next edit_faults.Memory which only welcome = tt

module _ {D : Type 0} (may_leave : D → List ℕ → Type 0) where
  pub put_kept : (config : ConfigParts) (history : List Entry) (lost : Option Entry) (next : Entry) (old new : Option (Journal D)) (fault : EditFault) → IsErrOf {T = Unit {0}} (Err fault) edit_faults.Disk ⊎ IsErrOf {T = Unit {0}} (Err fault) edit_faults.Memory
      → (IsErrOf {T = Unit {0}} (Err fault) edit_faults.Memory → new ≡ old) → KeepsIn may_leave config history lost old → IsAsBefore may_leave config history lost next new → LeavesKept may_leave config history lost next (Err fault) new
  put_kept config history lost next old new (edit_faults.HistoryFull n) which still keeps before = absurd (⊎_elim (λ d. cc) (λ m. cc) which)
  put_kept config history lost next old new (edit_faults.Broken breach n) which still keeps before = absurd (⊎_elim (λ d. cc) (λ m. cc) which)
  put_kept config history lost next old new (edit_faults.StoreFull n) which still keeps before = absurd (⊎_elim (λ d. cc) (λ m. cc) which)
  put_kept config history lost next old new edit_faults.Disk which still keeps before = before
  put_kept config history lost next old new edit_faults.Memory which still keeps before = subst (KeepsIn may_leave config history lost) (sym (still refl)) keeps

  -- where the disk is not called, all is as before
  pub quiet_kept : (config : ConfigParts) (history : List Entry) (lost : Option Entry) (next : Entry) (journal : Option (Journal D)) (fault : EditFault) → (IsErrOf {T = ℕ} (Err fault) edit_faults.Disk → ⊥) → KeepsIn may_leave config history lost journal → LeavesKept may_leave config history lost next (Err fault) journal
  quiet_kept config history lost next journal (edit_faults.HistoryFull n) not keeps = keeps
  quiet_kept config history lost next journal (edit_faults.Broken breach n) not keeps = keeps
  quiet_kept config history lost next journal (edit_faults.StoreFull n) not keeps = keeps
  quiet_kept config history lost next journal edit_faults.Disk not keeps = absurd (not refl)
  quiet_kept config history lost next journal edit_faults.Memory not keeps = keeps

  module _ (own : ConfigParts) (current : Published) (entries : List Entry) (opened since : ℕ) (board : Board Published) (old new : Option (Journal D)) (book : IsBookOf may_leave own current entries opened since board old) where
    -- the book behind a refusal
    pub book_err : (entries' : List Entry) → entries' ≡ entries → Holding may_leave own entries new → IsBookOf may_leave own current entries' opened since board new
    book_err entries' same held = subst (λ (h : List Entry). IsBookOf may_leave own current h opened since board new) (sym same) (record {
      valid = book.valid;
      few = book.few;
      opened_some = book.opened_some;
      settled = book.settled;
      number = book.number;
      state = book.state;
      shown = book.shown;
      last = book.last;
      held = held;
    })

    -- and behind an accepted entry
    pub book_ok : (ready : Ready) (next : Published) (entries' : List Entry) (since' : ℕ) (board' : Board Published) → IsReady old own entries ready → HasRoom entries → next ≡ arc_value ready.next
        → entries' ≡ entries ++ ready.entry ∷ [] → since' ≡ since_behind ready.entry.act since (length entries) → board'.number ≡ length entries' → board'.list ≡ board.list ++ entry (length entries') (arc_value ready.next) ∷ []
        → KeepsIn may_leave own (entries ++ ready.entry ∷ []) None new → IsBookOf may_leave own next entries' opened since' board' new
    book_ok ready next entries' since' board' is room same pushed from number list keeps =
        let more : List Entry = entries ++ ready.entry ∷ [] in
        let v : Published = arc_value ready.next in
        let long : length more ≡ length entries + 1 = length-append entries (ready.entry ∷ []) in
        let low = book.opened_some in
        let front : take opened more ≡ take opened entries = take-append-le opened entries (ready.entry ∷ []) low in
        let back : drop opened more ≡ drop opened entries ++ ready.entry ∷ [] = drop-append-le opened entries (ready.entry ∷ []) low in
        let shown : IsShown own more (Some ready.entry) (entry (length more) v) = record { number = refl; version = is.version; last = is.last } in
        let whole : AreShown own (take opened entries) (drop opened entries ++ ready.entry ∷ []) (board.list ++ entry (length more) v ∷ []) =
        shown-push own (take opened entries) (drop opened entries) ready.entry board.list (entry (length more) v) book.shown
        (subst (λ (h : List Entry). IsShown own (h ++ ready.entry ∷ []) (Some ready.entry) (entry (length more) v)) (sym (take-append-drop opened entries)) shown) in
        let all : AreShown own (take opened more) (drop opened more) (board.list ++ entry (length more) v ∷ []) =
        subst (λ (h : List Entry). AreShown own h (drop opened more) (board.list ++ entry (length more) v ∷ [])) (sym front)
        (subst (λ (h : List Entry). AreShown own (take opened entries) h (board.list ++ entry (length more) v ∷ [])) (sym back) whole) in
        let listed : board'.list ≡ board.list ++ entry (length more) v ∷ [] = list ∙ ap (λ (h : List Entry). board.list ++ entry (length h) v ∷ []) pushed in
        let settled : HasConfigSince own more (since_behind ready.entry.act since (length entries)) v.version.config =
        settled_behind own entries ready.entry since current.version v.version book.state is.version book.settled in
        subst (λ (p : Published). IsBookOf may_leave own p entries' opened since' board' new) (sym same)
        (subst (λ (h : List Entry). IsBookOf may_leave own v h opened since' board' new) (sym pushed) (record {
          valid = book.valid;
          few = omega (arith, long, room);
          opened_some = omega (arith, long, low);
          settled = subst (λ (n : ℕ). HasConfigSince own more n v.version.config) (sym from) settled;
          number = number ∙ ap length pushed;
          state = is.version;
          shown = subst (λ (l : List (Numbered Published)). AreShown own (take opened more) (drop opened more) l) (sym listed) all;
          last = (board.list, listed);
          held = (None, keeps);
        }))

  -- A refusal before the disk is called.
  pub refused_commits : (moment : D → ℕ) (left_since : D → ℕ → List ℕ → Type 0) (faults : D → ℕ) (only_now : (disk : D) (c : List ℕ) → left_since disk (moment disk) c → may_leave disk c) (book : BookParts D) (next : Entry) (fault : EditFault)
      → IsAnswer (has_journal book.journal) book.config book.history next (Err fault) → (IsErrOf {T = ℕ} (Err fault) edit_faults.Disk → ⊥) → Commits may_leave moment left_since faults book next (Err fault) book
  refused_commits moment left_since faults only_now book next fault right not = record {
    right = right;
    same = record { config = refl; opened = refl; gate = refl; stored = refl };
    history = refl;
    list = refl;
    kept = λ lost keeps. quiet_kept book.config book.history lost next book.journal fault not keeps;
    any_moment = λ lost keeps. quiet may_leave moment left_since only_now book.config book.history lost book.journal (DuringCommit {T = ℕ} (Err fault) book.config book.history lost next) keeps (λ c stands. inl stands);
    later = omega arith;
    disk = λ is. absurd (not is);
  }
