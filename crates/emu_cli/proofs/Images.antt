-- What a crash may leave behind a command.
use Rattle.std.proofs.Common.{◌≡◌, ◌⊎◌, inl, inr, ℕ, ◌≤◌, List, [], ◌∷◌, ◌++◌, map, Option, Some, None, Result, Ok, Err, refl, sym, ap, subst, arith}
use Rattle.std.specs.Option.{option_map}
use Rattle.emu_io.specs.declared.tree.Stored.{Stored}
use Rattle.db_config.specs.declared.parts.ConfigParts.{ConfigParts}
use Rattle.version_tree.specs.edit_rules.declared.acts.Act.{Act}
use Rattle.version_tree.specs.edit_rules.declared.acts.Entry.{Entry}
use Rattle.emu_disk.specs.declared.disk.Disk as disks
use Rattle.emu_disk.proofs.Moments.{joined, weaker}
use Rattle.edit_journal.specs.declared.journal.Journal.{Journal}
use Rattle.edit_journal.specs.Held.{disk_of, Holds}
use Rattle.edit_journal.proofs.Kept.{stands_may}
use Rattle.version_tree.specs.edit_rules.declared.commit_fault.EditFault.{EditFault}
use Rattle.version_tree.specs.edit_rules.declared.commit_fault.EditFault.TheVariants as edit_faults
use Rattle.script_runs.specs.live_book.Histories.{IsBare}
use Rattle.script_runs.specs.live_book.Kept.{BookParts, CrashLeaves, KeepsIn, StandsOrLost, faults_in}
use Rattle.script_runs.specs.live_book.Commits.{Commits, DuringCommit}
use Rattle.script_runs.proofs.of_live_book.Storing.{images}
use Rattle.script_runs.specs.book_opening.declared.fault.OpenFault.{OpenFault}
use Rattle.script_runs.specs.book_opening.declared.fault.OpenFault.TheVariants as open_faults
use Rattle.script_runs.specs.book_opening.Opens.{DuringNoBook, IsNoBookFor}
use Rattle.script_runs.specs.book_opening.Inner.Opens.{LeavesFrom}
use Rattle.emudb_files.specs.store_texts.declared.faults.Refused.{Refused}
use Rattle.emudb_files.specs.store_texts.declared.faults.CommandFault.{CommandFault}
use Rattle.emudb_files.specs.Answers.{HasDiskCause, edit_answer}
use Rattle.emudb_files.specs.Stored.{DuringLoad, Imports, IsMade, LeavesAlong, Loads, own_entry}
use Rattle.emudb_files.specs.Wanted.{bundles_wanted}
use Rattle.script_runs.specs.Bases.{EachOf}
use Rattle.emu_cli.specs.Ends.{AtImport, AtLoad, AtMade, IsDoubtOf, LeavesLoaded, LeavesMade, edit_in}

abbrev some_of : {D : Type 0} → D → Option D
some_of d = Some d

some_same : {D : Type 0} {x y : D} → some_of x ≡ some_of y → x ≡ y
some_same e = cc

-- The images of a journal's disk.

-- where it has no body
pub bare_images : {D : Type 0} (may_leave : D → List ℕ → Type 0) (journal : Journal D) (disk : D) → Holds may_leave [] None journal → disk ≡ disk_of journal → EachOf (may_leave disk) IsBare
bare_images may_leave journal disk holds same = λ c image. stands_may may_leave [] None journal holds c (subst (λ d. may_leave d c) same image)

-- where it is a book's
pub disk_images : {D : Type 0} (may_leave : D → List ℕ → Type 0) (journal : Option (Journal D)) (disk : D) → Some disk ≡ option_map disk_of journal → (config : ConfigParts) (history : List Entry) (lost : Option Entry) → KeepsIn may_leave config history lost journal → EachOf (may_leave disk) (StandsOrLost config history lost)
disk_images may_leave (Some journal) disk e config history lost keeps = λ c image. images may_leave config history lost journal keeps c (subst (λ d. may_leave d c) (some_same e) image)
disk_images may_leave None disk e config history lost keeps = absurd (cc)

-- The count of a journal's disk.

pub earlier : (start before now : ℕ) (result : Result ℕ CommandFault) → start ≤ before → HasDiskCause before now result → HasDiskCause start now result
earlier start before now result low cause = record { later = omega (arith, low, cause.later); failed = λ e. let rose = cause.failed e in omega (arith, low, rose) }

pub import_count : {D : Type 0} (faults : D → ℕ) (journal : Option (Journal D)) (disk : D) (start before : ℕ) (result : Result ℕ CommandFault) → start ≤ before → Some disk ≡ option_map disk_of journal → HasDiskCause before (faults_in faults journal) result → HasDiskCause start (faults disk) result
import_count faults (Some journal) disk start before result low e cause = earlier start before (faults disk) result low (subst (λ d. HasDiskCause before (faults d) result) (sym (some_same e)) cause)
import_count faults None disk start before result low e cause = absurd (cc)

pub load_count : {D : Type 0} (faults : D → ℕ) (journal : Journal D) (disk : D) (start before : ℕ) (result : Result ℕ CommandFault) → start ≤ before → disk ≡ disk_of journal → HasDiskCause before (faults (disk_of journal)) result → HasDiskCause start (faults disk) result
load_count faults journal disk start before result low e cause = earlier start before (faults disk) result low (subst (λ d. HasDiskCause before (faults d) result) (sym e) cause)

-- What is in doubt behind an `import`.

pub record Doubt {D : Type 0} (may_leave : D → List ℕ → Type 0) (new : BookParts D) (act : Option Act) (result : Result ℕ CommandFault) : Type 0 where
  pub lost : Option Entry
  pub keeps : KeepsIn may_leave new.config new.history lost new.journal
  pub doubt : IsDoubtOf act result lost

module _ {D : Type 0} (may_leave : D → List ℕ → Type 0) (moment : D → ℕ) (left_since : D → ℕ → List ℕ → Type 0) (count : D → ℕ) where
  keeps_as : (new : BookParts D) (config : ConfigParts) (history : List Entry) (lost : Option Entry) → new.config ≡ config → new.history ≡ history → KeepsIn may_leave config history lost new.journal → KeepsIn may_leave new.config new.history lost new.journal
  keeps_as new config history lost c h keeps = subst (λ d. KeepsIn may_leave d new.history lost new.journal) (sym c) (subst (λ e. KeepsIn may_leave config e lost new.journal) (sym h) keeps)

  -- after a fault of the disk, by what is left in doubt
  disk_failed : (new : BookParts D) (act : Act) (left : Option Entry) → KeepsIn may_leave new.config new.history left new.journal → (left ≡ None) ⊎ (left ≡ None) ⊎ (left ≡ Some (own_entry act)) → Doubt may_leave new (Some act) (edit_answer (Err edit_faults.Disk))
  disk_failed new act left keeps (inl none) = record { lost = None; keeps = subst (λ l. KeepsIn may_leave new.config new.history l new.journal) none keeps; doubt = tt }
  disk_failed new act left keeps (inr (inl none)) = record { lost = None; keeps = subst (λ l. KeepsIn may_leave new.config new.history l new.journal) none keeps; doubt = tt }
  disk_failed new act left keeps (inr (inr own)) = record { lost = Some (own_entry act); keeps = subst (λ l. KeepsIn may_leave new.config new.history l new.journal) own keeps; doubt = (refl, act, refl, refl) }

  committed : (old new : BookParts D) (act : Act) (answer : Result ℕ EditFault) → KeepsIn may_leave old.config old.history None old.journal → Commits may_leave moment left_since count old (own_entry act) answer new → Doubt may_leave new (Some act) (edit_answer answer)
  committed old new act (Ok n) settled commits = record { lost = None; keeps = keeps_as new old.config (old.history ++ own_entry act ∷ []) None commits.same.config commits.history (commits.kept None settled); doubt = tt }
  committed old new act (Err (edit_faults.HistoryFull n)) settled commits = record { lost = None; keeps = keeps_as new old.config old.history None commits.same.config commits.history (commits.kept None settled); doubt = tt }
  committed old new act (Err (edit_faults.Broken breach n)) settled commits = record { lost = None; keeps = keeps_as new old.config old.history None commits.same.config commits.history (commits.kept None settled); doubt = tt }
  committed old new act (Err (edit_faults.StoreFull n)) settled commits = record { lost = None; keeps = keeps_as new old.config old.history None commits.same.config commits.history (commits.kept None settled); doubt = tt }
  committed old new act (Err edit_faults.Disk) settled commits =
      let before = commits.kept None settled in
      disk_failed new act before.left (keeps_as new old.config old.history before.left commits.same.config commits.history before.keeps) before.which
  committed old new act (Err edit_faults.Memory) settled commits = record { lost = None; keeps = keeps_as new old.config old.history None commits.same.config commits.history (commits.kept None settled); doubt = tt }

module _ {D : Type 0} (disk : disks.Ghosts D) where
  pub imported : (content : Option (List Stored)) (wanted : List Stored → Result Act Refused) (old new : BookParts D) (result : Result ℕ CommandFault) → KeepsIn disk.may_leave old.config old.history None old.journal →
      (imports : Imports disk.may_leave disk.moment disk.left_since disk.faults content wanted old result new) → Doubt disk.may_leave new (edit_in disk content wanted old result new imports) result
  imported content wanted old new result settled (inl unread) = record { lost = None; keeps = subst (λ b. KeepsIn disk.may_leave b.config b.history None b.journal) (sym unread.same) settled; doubt = tt }
  imported content wanted old new result settled (inr is) = subst (λ r. Doubt disk.may_leave new (Some is.act) r) (sym is.added.answered) (committed disk.may_leave disk.moment disk.left_since disk.faults old new is.act is.added.answer settled is.added.commits)

  -- The images behind a `load`.

  as_before : (old new : Journal D) → Holds disk.may_leave [] None old → new ≡ old → EachOf (disk.may_leave (disk_of new)) IsBare
  as_before old new holds same = bare_images disk.may_leave old (disk_of new) holds (ap_disk new old same)
    where
      ap_disk : (x y : Journal D) → x ≡ y → disk_of x ≡ disk_of y
      ap_disk x y e = subst (λ z. disk_of x ≡ disk_of z) e refl

  not_stored : (config : ConfigParts) (old new : Journal D) (fault : OpenFault) → Holds disk.may_leave [] None old → IsNoBookFor disk.may_leave disk.faults config (Some old) fault (Some new) → EachOf (disk.may_leave (disk_of new)) (DuringNoBook fault config)
  not_stored config old new open_faults.Disk holds why = why.4
  not_stored config old new (open_faults.Damaged at) holds never = absurd never
  not_stored config old new open_faults.StoreFull holds (over, same) = as_before old new holds (some_same same)
  not_stored config old new open_faults.Memory holds same = as_before old new holds (some_same same)

  made_images : (content : Option (List Stored)) (name : List ℕ) (config : ConfigParts) (old new : Journal D) (result : Result ℕ CommandFault) → Holds disk.may_leave [] None old → (made : IsMade disk.may_leave disk.moment disk.left_since disk.faults content (bundles_wanted name) config old result new) →
      LeavesMade disk content name old result new (disk.may_leave (disk_of new)) config made
  made_images content name config old new result holds (inl n) = not_stored config old new n.fault holds n.no_book
  made_images content name config old new result holds (inr f) = λ c image. images disk.may_leave config (map own_entry f.done) f.lost new f.keeps c image

  pub load_images : (content : Option (List Stored)) (name : List ℕ) (old new : Journal D) (result : Result ℕ CommandFault) → Holds disk.may_leave [] None old → (loads : Loads disk.may_leave disk.moment disk.left_since disk.faults content name old result new) →
      LeavesLoaded disk content name old result new (disk.may_leave (disk_of new)) loads
  load_images content name old new result holds (inl n) = as_before old new holds n.same
  load_images content name old new result holds (inr r) = made_images content name r.config old new result holds r.made

-- What a crash at some moment of an `import` leaves.

import_joined : {D : Type 0} (disk : disks.Ghosts D) (begin now : D) (old new : Option (Journal D)) (P R Q : List ℕ → Type 0) → ((c : List ℕ) → P c → Q c) → ((c : List ℕ) → R c → Q c) → Some now ≡ option_map disk_of new →
    LeavesFrom disk.moment disk.left_since begin old P → CrashLeaves disk.moment disk.left_since old new R → EachOf (disk.left_since now (disk.moment begin)) Q
import_joined disk begin now (Some old) (Some new) P R Q one two own leaves crash =
    let all = joined disk.moment disk.left_since begin (disk_of old) (disk_of new) Q (weaker disk.moment disk.left_since begin (disk_of old) P Q one leaves) (weaker disk.moment disk.left_since (disk_of old) (disk_of new) R Q two crash) in
    subst (λ d. EachOf (disk.left_since d (disk.moment begin)) Q) (sym (some_same own)) all.each
import_joined disk begin now None new P R Q one two own leaves crash = absurd leaves
import_joined disk begin now (Some old) None P R Q one two own leaves crash = absurd crash

import_same : {D : Type 0} (disk : disks.Ghosts D) (begin now : D) (journal : Option (Journal D)) (P Q : List ℕ → Type 0) → ((c : List ℕ) → P c → Q c) → Some now ≡ option_map disk_of journal → LeavesFrom disk.moment disk.left_since begin journal P → EachOf (disk.left_since now (disk.moment begin)) Q
import_same disk begin now (Some journal) P Q one own leaves = subst (λ d. EachOf (disk.left_since d (disk.moment begin)) Q) (sym (some_same own)) (λ c left. one c (leaves.each c left))
import_same disk begin now None P Q one own leaves = absurd leaves

module _ {D : Type 0} (disk : disks.Ghosts D) (content : Option (List Stored)) (wanted : List Stored → Result Act Refused) (old new : BookParts D) (result : Result ℕ CommandFault) (begin now : D)
    (settled : KeepsIn disk.may_leave old.config old.history None old.journal) (own : Some now ≡ option_map disk_of new.journal) (leaves : LeavesFrom disk.moment disk.left_since begin old.journal (disk.may_leave begin)) where
  during : (answer : Result ℕ EditFault) (act : Act) (c : List ℕ) → DuringCommit answer old.config old.history None (own_entry act) c → AtImport (disk.may_leave begin) old.config old.history (Some act) c
  during answer act c (inl h) = inr (inl h)
  during answer act c (inr h) = inr (inr h.1)

  pub import_moments : (imports : Imports disk.may_leave disk.moment disk.left_since disk.faults content wanted old result new) → EachOf (disk.left_since now (disk.moment begin)) (AtImport (disk.may_leave begin) old.config old.history (edit_in disk content wanted old result new imports))
  import_moments (inl unread) =
      import_same disk begin now new.journal (disk.may_leave begin) (AtImport (disk.may_leave begin) old.config old.history None) (λ c was. inl was) own
      (subst (λ b. LeavesFrom disk.moment disk.left_since begin b.journal (disk.may_leave begin)) (sym unread.same) leaves)
  import_moments (inr is) =
      import_joined disk begin now old.journal new.journal (disk.may_leave begin) (DuringCommit is.added.answer old.config old.history None (own_entry is.act)) (AtImport (disk.may_leave begin) old.config old.history (Some is.act)) (λ c was. inl was) (during is.added.answer is.act) own leaves (is.added.commits.any_moment None settled)

-- What a crash at some moment of a `load` leaves.

module _ {D : Type 0} (disk : disks.Ghosts D) (content : Option (List Stored)) (name : List ℕ) (begin now : D) (old new : Journal D) (result : Result ℕ CommandFault) (own : now ≡ disk_of new) (leaves : LeavesFrom disk.moment disk.left_since begin (Some old) (disk.may_leave begin)) where
  abbrev Before : List ℕ → Type 0
  Before = disk.may_leave begin

  some_own : Some now ≡ option_map disk_of (Some new)
  some_own = ap (λ d. Some d) own

  -- where nothing was written
  as_it_was : (Q : List ℕ → Type 0) → Some new ≡ Some old → EachOf (disk.left_since now (disk.moment begin)) (λ c. Before c ⊎ Q c)
  as_it_was Q same =
      import_same disk begin now (Some new) Before (λ c. Before c ⊎ Q c) (λ c was. inl was) some_own
      (subst (λ j. LeavesFrom disk.moment disk.left_since begin j Before) (sym same) leaves)

  -- where the disk was called
  called : (Q : List ℕ → Type 0) → CrashLeaves disk.moment disk.left_since (Some old) (Some new) Q → EachOf (disk.left_since now (disk.moment begin)) (λ c. Before c ⊎ Q c)
  called Q crash = import_joined disk begin now (Some old) (Some new) Before Q (λ c. Before c ⊎ Q c) (λ c was. inl was) (λ c has. inr has) some_own leaves crash

  along : (Q : List ℕ → Type 0) → LeavesAlong disk.moment disk.left_since (Some old) (Some new) Q → EachOf (disk.left_since now (disk.moment begin)) (λ c. Before c ⊎ Q c)
  along Q (inl same) = as_it_was Q same
  along Q (inr crash) = called Q crash

  made_moments : (config : ConfigParts) (made : IsMade disk.may_leave disk.moment disk.left_since disk.faults content (bundles_wanted name) config old result new) → EachOf (disk.left_since now (disk.moment begin)) (λ c. Before c ⊎ AtMade disk content name old result new config made c)
  made_moments config (inl n) = called (DuringNoBook n.fault config) n.moments
  made_moments config (inr f) = along (DuringLoad config (map own_entry f.done) f.next result) f.moments

  pub load_moments : (loads : Loads disk.may_leave disk.moment disk.left_since disk.faults content name old result new) → EachOf (disk.left_since now (disk.moment begin)) (λ c. Before c ⊎ AtLoad disk content name old result new loads c)
  load_moments (inl n) = as_it_was (λ c. ⊥) (ap (λ j. Some j) n.same)
  load_moments (inr r) = made_moments r.config r.made
