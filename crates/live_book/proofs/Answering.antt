-- What a commit promises behind the try to store its entry.
use Rattle.std.proofs.Common.{◌≡◌, ◌⊎◌, inl, inr, ⊎_elim, ℕ, ◌≤◌, List, [], ◌∷◌, ◌++◌, length, Option, None, Result, Ok, Err, IsErrOf, true, refl, sym, ◌∙◌, ap, subst, arith, length-append}
use Rattle.emu_names.specs.Count.{Rose}
use Rattle.db_config.specs.declared.parts.ConfigParts.{ConfigParts}
use Rattle.version_steps.specs.edit_rules.declared.acts.Entry.{Entry}
use Rattle.edit_journal.specs.declared.journal.Journal.{Journal}
use Rattle.version_gate.specs.Lists.{entry}
use Rattle.version_steps.specs.version_tree.Version.{VersionParts}
use Rattle.version_steps.specs.edit_rules.declared.commit_fault.EditFault.{EditFault}
use Rattle.version_steps.specs.edit_rules.declared.commit_fault.EditFault.TheVariants as edit_faults
use Rattle.live_book.specs.declared.published.Published.{Published}
use Rattle.live_book.specs.Kept.{BookParts, KeepsIn, IsAsBefore, CrashLeaves, faults_in}
use Rattle.live_book.specs.Commits.{has_journal, IsWelcome, Reaches, DuringCommit, Commits}
use Rattle.live_book.specs.Inner.Prepared.{MayFollowIn, ForStoreIn}
use Rattle.live_book.proofs.Committing.{crash_weaker, put_right, put_kept}

-- a refusal, whatever an answer would be
abbrev none_of : EditFault → Result (Unit {0}) EditFault
none_of fault = Err fault

reaches_as : (fault : EditFault) → Reaches (none_of fault) → Reaches {T = ℕ} (Err fault)
reaches_as (edit_faults.HistoryFull n) is = is
reaches_as (edit_faults.Broken breach n) is = is
reaches_as (edit_faults.StoreFull n) is = is
reaches_as edit_faults.Disk is = is
reaches_as edit_faults.Memory is = is

during_as : (fault : EditFault) (config : ConfigParts) (history : List Entry) (lost : Option Entry) (next : Entry) (c : List ℕ) → DuringCommit (none_of fault) config history lost next c → DuringCommit {T = ℕ} (Err fault) config history lost next c
during_as fault config history lost next c has = ⊎_elim (λ before. inl before) (λ more. inr (reaches_as fault more.0, more.1)) has

disk_as : (fault : EditFault) → IsErrOf {T = ℕ} (Err fault) edit_faults.Disk → IsErrOf (none_of fault) edit_faults.Disk
disk_as fault is =
    let same : fault ≡ edit_faults.Disk = cc in
    ap none_of same

module _ {D : Type 0} (may_leave : D → List ℕ → Type 0) (moment : D → ℕ) (left_since : D → ℕ → List ℕ → Type 0) (faults : D → ℕ) (old : BookParts D) (next : Entry) (journal : Option (Journal D)) where
  -- the book with another journal
  abbrev pub over_journal : BookParts D
  over_journal = record { config = old.config; history = old.history; opened = old.opened; journal = journal; gate = old.gate; list = old.list }

  pub refusal_commits : (fault : EditFault) → IsErrOf (none_of fault) edit_faults.Disk ⊎ IsErrOf (none_of fault) edit_faults.Memory
      → IsWelcome (has_journal old.journal) old.config old.history next → MayFollowIn old.journal old.config old.history next
      → ForStoreIn may_leave old.journal next (λ config history lost. IsAsBefore may_leave config history lost next journal)
      → (IsErrOf (none_of fault) edit_faults.Memory → journal ≡ old.journal)
      → ForStoreIn may_leave old.journal next (λ config history lost. CrashLeaves moment left_since old.journal journal (DuringCommit (none_of fault) config history lost next))
      → faults_in faults old.journal ≤ faults_in faults journal
      → (IsErrOf (none_of fault) edit_faults.Disk → Rose (faults_in faults old.journal) (faults_in faults journal))
      → (IsErrOf (none_of fault) edit_faults.Disk → has_journal old.journal ≡ true)
      → has_journal journal ≡ has_journal old.journal
      → Commits may_leave moment left_since faults old next (Err fault) over_journal
  refusal_commits fault which welcome follows err still any later disk only stored = record {
    right = put_right (has_journal old.journal) old.config old.history next fault which only welcome;
    same = record { config = refl; opened = refl; gate = refl; stored = stored };
    history = refl;
    list = refl;
    kept = λ lost keeps. put_kept may_leave old.config old.history lost next old.journal journal fault which still keeps (err old.config old.history lost keeps follows);
    any_moment = λ lost keeps. crash_weaker may_leave moment left_since old.journal journal (DuringCommit (none_of fault) old.config old.history lost next) (DuringCommit {T = ℕ} (Err fault) old.config old.history lost next)
        (during_as fault old.config old.history lost next) (any old.config old.history lost keeps follows);
    later = later;
    disk = λ is. disk (disk_as fault is);
  }

  -- the same where the entries are those from before by an equation alone
  abbrev pub over_entries : List Entry → BookParts D
  over_entries entries = record { config = old.config; history = entries; opened = old.opened; journal = journal; gate = old.gate; list = old.list }

  pub same_history : (fault : EditFault) (entries : List Entry) → entries ≡ old.history → Commits may_leave moment left_since faults old next (Err fault) over_journal
      → Commits may_leave moment left_since faults old next (Err fault) (over_entries entries)
  same_history fault entries same commits = subst (λ (l : List Entry). Commits may_leave moment left_since faults old next (Err fault) (over_entries l)) (sym same) commits

  pub accepted_commits : (n : ℕ) (version : Published) (new : BookParts D) → n ≡ length new.history → new.history ≡ old.history ++ next ∷ [] → new.config ≡ old.config → new.opened ≡ old.opened
      → new.gate ≡ old.gate → new.list ≡ old.list ++ entry (length new.history) version ∷ [] → new.journal ≡ journal
      → IsWelcome (has_journal old.journal) old.config old.history next → MayFollowIn old.journal old.config old.history next
      → ForStoreIn may_leave old.journal next (λ config history lost. KeepsIn may_leave config (history ++ next ∷ []) None journal)
      → ForStoreIn may_leave old.journal next (λ config history lost. CrashLeaves moment left_since old.journal journal (DuringCommit {T = Unit {0}} (Ok tt) config history lost next))
      → faults_in faults old.journal ≤ faults_in faults journal
      → has_journal journal ≡ has_journal old.journal
      → Commits may_leave moment left_since faults old next (Ok n) new
  accepted_commits n version new count pushed config opened gate list own welcome follows ok any later stored = record {
    right = (omega (arith, count, ap (λ (l : List Entry). length l) pushed, length-append old.history (next ∷ [])), welcome);
    same = record { config = config; opened = opened; gate = gate; stored = ap has_journal own ∙ stored };
    history = pushed;
    list = (version, list ∙ ap (λ (k : ℕ). old.list ++ entry k version ∷ []) (sym count));
    kept = λ lost keeps. subst (λ (j : Option (Journal D)). KeepsIn may_leave old.config (old.history ++ next ∷ []) None j) (sym own) (ok old.config old.history lost keeps follows);
    any_moment = λ lost keeps. subst (λ (j : Option (Journal D)). CrashLeaves moment left_since old.journal j (DuringCommit {T = ℕ} (Ok n) old.config old.history lost next)) (sym own) (any old.config old.history lost keeps follows);
    later = subst (λ (j : Option (Journal D)). faults_in faults old.journal ≤ faults_in faults j) (sym own) later;
    disk = λ is. absurd cc;
  }

-- Refusals that are not the disk's.

abbrev none_made : EditFault → Result VersionParts EditFault
none_made fault = Err fault

pub no_disk_as : (fault : EditFault) → (IsErrOf (none_made fault) edit_faults.Disk → ⊥) → IsErrOf {T = ℕ} (Err fault) edit_faults.Disk → ⊥
no_disk_as fault not is =
    let same : fault ≡ edit_faults.Disk = cc in
    not (ap none_made same)

pub memory_is_none : IsErrOf {T = ℕ} (Err edit_faults.Memory) edit_faults.Disk → ⊥
memory_is_none is = absurd cc
