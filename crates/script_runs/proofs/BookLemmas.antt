-- A run over a book: how it begins, and how it ends where there is why book.
use Rattle.std.proofs.Common.{◌≡◌, inl, inr, ℕ, ◌≤◌, Bool, true, false, List, [], ◌∷◌, Option, Some, None, Result, Ok, refl, sym, ◌∙◌, ap, subst, arith}
use Rattle.emu_names.specs.Count.{Rose}
use Rattle.db_config.specs.declared.parts.ConfigParts.{ConfigParts}
use Rattle.live_run.specs.edit_rules.declared.acts.Entry.{Entry}
use Rattle.emu_disk.specs.Disk.{LeavesOnly}
use Rattle.emu_disk.specs.declared.disk.Disk as disks
use Rattle.edit_journal.specs.declared.journal.Journal.{Journal}
use Rattle.edit_journal.specs.Held.{disk_of}
use Rattle.book_opening.specs.declared.fault.OpenFault.{OpenFault}
use Rattle.book_opening.specs.declared.fault.OpenFault.TheVariants as opens
use Rattle.live_run.specs.live_book.Kept.{BookParts, KeepsIn, CrashLeaves, faults_in}
use Rattle.live_run.specs.live_book.Commits.{has_journal}
use Rattle.book_opening.specs.Opens.{IsNoBookFor, DuringNew, DuringNoBook}
use Rattle.book_opening.specs.Inner.Opens.{IsEmpty, IsNew}
use Rattle.eql_resolve.specs.Made.{times_too_large}
use Rattle.script_lines.specs.declared.faults.ReadLine.TheVariants as reads
use Rattle.program_output.specs.declared.ended.Ended.{Ended}
use Rattle.program_output.specs.declared.ended.Ended.TheVariants as ends
use Rattle.script_runs.specs.Scripts.{read_from}
use Rattle.script_runs.specs.Bases.{Base, bare_store, store_of, counted, EachOf}
use Rattle.script_runs.specs.Inner.Bases.{fresh_base}
use Rattle.script_runs.specs.Inner.Turns.{IsLineRead}
use Rattle.script_runs.specs.Inner.Reached.{IsBeginOf, IsEndFor, RunsScript, EndsScript, DuringStart, IsRunFailed, IsRunKept, LeavesSince}
use Rattle.std.proofs.KnownBytes.{Appends-nil}
use Rattle.script_runs.specs.Runs.{run_texts}
use Rattle.script_runs.proofs.LastLemmas.{all_to_last, flat_run}
use Rattle.script_runs.proofs.ReadLemmas.{read_none}
use Rattle.script_runs.proofs.MomentLemmas.{run_none, run_store, since_joined}
use Rattle.script_runs.proofs.RunLemmas.{broke_unbegun, gave_config}

-- images that a disk may leave now
module _ {D : Type 0} (may_leave : D → List ℕ → Type 0) (moment : D → ℕ) (left_since : D → ℕ → List ℕ → Type 0)
    (counts_now : (disk : D) (t : ℕ) (c : List ℕ) → t ≤ moment disk → may_leave disk c → left_since disk t c) where
  pub now_leaves : (old new : D) (P : List ℕ → Type 0) → LeavesOnly moment left_since old new P → EachOf (may_leave new) P
  now_leaves old new P leaves = λ c image. leaves.each c (counts_now new (moment old) c leaves.later image)

  pub crash_leaves : (old new : Option (Journal D)) (own : Journal D) (P : List ℕ → Type 0) → new ≡ Some own → has_journal old ≡ true → CrashLeaves moment left_since old new P → EachOf (may_leave (disk_of own)) P
  crash_leaves (Some old) (Some new) own P same stored leaves = subst (λ j. EachOf (may_leave (disk_of j)) P) (some_same same) (now_leaves (disk_of old) (disk_of new) P leaves)
    where
      some_same : {A : Type 0} {x y : A} → Some x ≡ Some y → x ≡ y
      some_same e = cc
  crash_leaves None new own P same stored leaves = absurd (cc)
  crash_leaves (Some old) None own P same stored leaves = absurd (cc)

-- No book could be made of a script's configuration.
module _ {D : Type 0} (disk : disks.Ghosts D) (counts_now : (d : D) (t : ℕ) (c : List ℕ) → t ≤ disk.moment d → disk.may_leave d c → disk.left_since d t c)
    (begin : D) (config : ConfigParts) (line : List ℕ) (rest : List (List ℕ)) (m n : ℕ) (now : Option (List ℕ)) (past : Bool) (h : IsLineRead line 1 true [] m n (Ok (reads.Config config))) where
  rose_from : (a b c : ℕ) → a ≤ b → Rose b c → Rose a c
  rose_from a b c l g = omega arith

  fresh_ends : (stored : Bool) (old new : Option (Journal D)) (fault : OpenFault) (end : Ended) → has_journal old ≡ stored → counted (fresh_base stored) (disk.faults begin) ≤ faults_in disk.faults old → LeavesSince disk begin old (disk.may_leave begin) → IsEmpty disk.may_leave old → IsEndFor fault end → IsNoBookFor disk.may_leave disk.faults config old fault new →
      CrashLeaves disk.moment disk.left_since old new (DuringNoBook fault config) → EndsScript end (fresh_base stored) (IsRunKept disk (fresh_base stored) begin new) (IsRunFailed disk begin new) past (line ∷ rest) m n now now
  fresh_ends true old new opens.StoreFull end is low since empty e why crash =
      subst (λ x. EndsScript x bare_store (IsRunKept disk bare_store begin new) (IsRunFailed disk begin new) past (line ∷ rest) m n now now) (sym e) (record {
        config = config;
        gave = gave_config config line rest m n now h;
        stored = refl;
        wants = refl;
        over = why.0.1;
        done = subst (λ j. IsRunKept disk bare_store begin j (read_from true) []) (sym why.1) (run_none disk begin true old is low since empty);
      })
  fresh_ends false old new opens.StoreFull end is low since empty e why crash = absurd (let other : false ≡ true = sym is ∙ why.0.0 in cc)
  fresh_ends true old new opens.Disk end is low since empty e why crash =
      subst (λ x. EndsScript x bare_store (IsRunKept disk bare_store begin new) (IsRunFailed disk begin new) past (line ∷ rest) m n now now) (sym e) (record {
        config = config;
        gave = gave_config config line rest m n now h;
        stored = refl;
        wants = refl;
        failed = record {
          failed = record {
            cause = rose_from (disk.faults begin) (faults_in disk.faults old) (faults_in disk.faults new) low why.2;
            images = λ own same. crash_leaves disk.may_leave disk.moment disk.left_since counts_now old new own (DuringNew config) same is crash;
          };
          moments = since_joined disk begin old new (disk.may_leave begin) (DuringNew config) (DuringStart (disk.may_leave begin) config) (λ c was. inl was) (λ c new_one. inr new_one) since crash;
        };
      })
  fresh_ends false old new opens.Disk end is low since empty e why crash = absurd (let other : false ≡ true = sym is ∙ why.0 in cc)
  fresh_ends stored old new (opens.Damaged at) end is low since empty e why crash = absurd why
  fresh_ends stored old new opens.Memory end is low since empty e why crash =
      subst (λ x. EndsScript x (fresh_base stored) (IsRunKept disk (fresh_base stored) begin new) (IsRunFailed disk begin new) past (line ∷ rest) m n now now) (sym e)
      (subst (λ j. EndsScript ends.Memory (fresh_base stored) (IsRunKept disk (fresh_base stored) begin j) (IsRunFailed disk begin j) past (line ∷ rest) m n now now) (sym why)
      (broke_unbegun disk begin stored old is low since empty (line ∷ rest) (times_too_large h.made) m n now h.rose))

  pub no_book_ends : (base : Base) (old new : Option (Journal D)) (fault : OpenFault) (end : Ended) → base ≡ fresh_base (has_journal old) → IsBeginOf disk.faults base old (disk.faults begin) → LeavesSince disk begin old (disk.may_leave begin) → IsEmpty disk.may_leave old → IsEndFor fault end → IsNoBookFor disk.may_leave disk.faults config old fault new →
      CrashLeaves disk.moment disk.left_since old new (DuringNoBook fault config) → EndsScript end base (IsRunKept disk base begin new) (IsRunFailed disk begin new) past (line ∷ rest) m n now now
  no_book_ends base old new fault end same low since empty e why crash =
      subst (λ x. EndsScript end x (IsRunKept disk x begin new) (IsRunFailed disk begin new) past (line ∷ rest) m n now now) (sym same)
      (fresh_ends (has_journal old) old new fault end refl (subst (λ b. IsBeginOf disk.faults b old (disk.faults begin)) same low) since empty e why crash)

-- What a run over a new book is given.
module _ {D : Type 0} (may_leave : D → List ℕ → Type 0) (faults : D → ℕ) (config : ConfigParts) (old : Option (Journal D)) (book : BookParts D) (new : IsNew may_leave config (has_journal old) book) where
  pub new_base : (base : Base) → base ≡ fresh_base (has_journal old) → base ≡ fresh_base (has_journal book.journal)
  new_base base same = same ∙ ap (λ b. fresh_base b) (sym new.stored)

  pub new_low : (base : Base) (begin : ℕ) → IsBeginOf faults base old begin → faults_in faults old ≤ faults_in faults book.journal → IsBeginOf faults base book.journal begin
  new_low base begin low later = omega (arith, low, later)

  -- what a crash left while the book was made
  pub new_since : (disk : disks.Ghosts D) (begin : D) → LeavesSince disk begin old (disk.may_leave begin) → CrashLeaves disk.moment disk.left_since old book.journal (DuringNew config) → LeavesSince disk begin book.journal (DuringStart (disk.may_leave begin) book.config)
  new_since disk begin since crash =
      subst (λ c. LeavesSince disk begin book.journal (DuringStart (disk.may_leave begin) c)) (sym new.config)
      (since_joined disk begin old book.journal (disk.may_leave begin) (DuringNew config) (DuringStart (disk.may_leave begin) config) (λ c was. inl was) (λ c new_one. inr new_one) since crash)

  pub new_read : (line : List ℕ) (m n : ℕ) → IsLineRead line 1 true [] m n (Ok (reads.Config config)) → IsLineRead line 1 true [] m n (Ok (reads.Config book.config))
  new_read line m n h = subst (λ c. IsLineRead line 1 true [] m n (Ok (reads.Config c))) (sym new.config) h

  pub new_keeps : KeepsIn may_leave book.config [] None book.journal
  new_keeps = subst (λ c. KeepsIn may_leave c [] None book.journal) (sym new.config) new.kept

-- a run that ended, of the journal that its book gave up
pub of_journal : {D : Type 0} (disk : disks.Ghosts D) {A : Type 0} (result : Result A Ended) (base : Base) (begin : D) (past : Bool) (lines : List (List ℕ)) (m n : ℕ) (before after : Option (List ℕ)) (journal given : Option (Journal D)) → given ≡ journal →
    RunsScript result base (IsRunKept disk base begin journal) (IsRunFailed disk begin journal) past lines m n before after → RunsScript result base (IsRunKept disk base begin given) (IsRunFailed disk begin given) past lines m n before after
of_journal disk result base begin past lines m n before after journal given same ran =
    subst (λ j. RunsScript result base (IsRunKept disk base begin j) (IsRunFailed disk begin j) past lines m n before after) (sym same) ran

-- memory ran out before the first line over a store with a configuration
pub broke_store : {D : Type 0} (disk : disks.Ghosts D) (begin : D) (config : ConfigParts) (history : List Entry) (journal : Option (Journal D)) → has_journal journal ≡ true → disk.faults begin ≤ faults_in disk.faults journal → LeavesSince disk begin journal (disk.may_leave begin) → KeepsIn disk.may_leave config history None journal →
    (lines : List (List ℕ)) (m : ℕ) (now : Option (List ℕ)) → EndsScript ends.Memory (store_of config history) (IsRunKept disk (store_of config history) begin journal) (IsRunFailed disk begin journal) false lines m m now now
broke_store disk begin config history journal is low since keeps lines m now = record {
  asked = [];
  read = read_none m m (omega arith);
  parsed = read_from false;
  script = refl;
  outages = [];
  done = run_store disk begin config history journal is low since keeps;
  output = all_to_last now now (run_texts (store_of config history) (read_from false) []) [] (flat_run (store_of config history) (read_from false) []) (Appends-nil now);
}

-- the same of an end
pub end_journal : {D : Type 0} (disk : disks.Ghosts D) (end : Ended) (base : Base) (begin : D) (past : Bool) (lines : List (List ℕ)) (m n : ℕ) (before after : Option (List ℕ)) (journal given : Option (Journal D)) → given ≡ journal →
    EndsScript end base (IsRunKept disk base begin journal) (IsRunFailed disk begin journal) past lines m n before after → EndsScript end base (IsRunKept disk base begin given) (IsRunFailed disk begin given) past lines m n before after
end_journal disk end base begin past lines m n before after journal given same ran =
    subst (λ j. EndsScript end base (IsRunKept disk base begin j) (IsRunFailed disk begin j) past lines m n before after) (sym same) ran
