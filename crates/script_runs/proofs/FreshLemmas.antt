-- The same over the base of a script that has to give its configuration.
use Rattle.std.proofs.Common.{◌≡◌, ℕ, Bool, true, cond, List, [], ◌∷◌, Option, None, Ok, Err, refl, sym, subst}
use Rattle.std.specs.Io.KnownBytes.{Appends}
use Rattle.std.proofs.KnownBytes.{Appends-nil}
use Rattle.db_config.specs.declared.parts.ConfigParts.{ConfigParts}
use Rattle.emu_disk.specs.declared.disk.Disk as disks
use Rattle.edit_journal.specs.declared.journal.Journal.{Journal}
use Rattle.live_run.specs.live_book.Kept.{KeepsIn}
use Rattle.live_run.specs.live_book.Commits.{has_journal}
use Rattle.book_opening.specs.Inner.Opens.{IsEmpty}
use Rattle.script_lines.specs.declared.faults.LineFault.TheVariants as faults_of
use Rattle.script_lines.specs.declared.faults.ReadLine.TheVariants as reads
use Rattle.program_output.specs.reply_texts.Texts.{reply_text}
use Rattle.program_output.specs.declared.ended.Ended.{Ended}
use Rattle.program_output.specs.declared.ended.Ended.TheVariants as ends
use Rattle.script_runs.specs.declared.running.Running.{Running}
use Rattle.script_runs.specs.Bases.{Base}
use Rattle.script_runs.specs.Inner.Bases.{fresh_base}
use Rattle.program_output.specs.Texts.{config_reply}
use Rattle.script_runs.specs.Inner.Turns.{IsLineRead, ReadsNext}
use Rattle.script_runs.specs.Inner.Reached.{IsBegun, IsBeginOf, Reached, EndsScript, DuringStart, IsRunFailed, IsRunKept, LeavesSince}
use Rattle.program_output.specs.Inner.Written.{WritesText}
use Rattle.script_runs.proofs.RunLemmas.{begun, ends_unbegun, broke_config, ends_first, no_lines}

module _ {D : Type 0} (disk : disks.Ghosts D) (begin : D) (base : Base) (journal : Option (Journal D))
    (same : base ≡ fresh_base (has_journal journal)) (low : IsBeginOf disk.faults base journal (disk.faults begin)) where
  abbrev own : Base
  own = fresh_base (has_journal journal)

  own_low : IsBeginOf disk.faults own journal (disk.faults begin)
  own_low = subst (λ b. IsBeginOf disk.faults b journal (disk.faults begin)) same low

  pub fresh_begun : (config : ConfigParts) (line : List ℕ) (running : Running D) (m n : ℕ) (before now : Option (List ℕ)) → LeavesSince disk begin journal (DuringStart (disk.may_leave begin) config) →
      IsLineRead line 1 true [] m n (Ok (reads.Config config)) → IsBegun disk.may_leave config [] 1 running → running.core.book.journal ≡ journal → Appends before now (reply_text config_reply) →
      Reached disk base begin config (line ∷ []) running m n before now
  fresh_begun config line running m n before now since h b is written =
      subst (λ x. Reached disk x begin config (line ∷ []) running m n before now) (sym same)
      (begun disk begin (has_journal journal) journal refl own_low config line running m n before now since h b is written)

  pub fresh_unbegun : (A : Type 0) (end : Ended) (config : ConfigParts) (past : Bool) (line : List ℕ) (rest : List (List ℕ)) (m n : ℕ) (before now : Option (List ℕ)) → LeavesSince disk begin journal (DuringStart (disk.may_leave begin) config) →
      IsLineRead line 1 true [] m n (Ok (reads.Config config)) → KeepsIn disk.may_leave config [] None journal → WritesText {A = A} (Err end) before now (reply_text config_reply) →
      EndsScript end base (IsRunKept disk base begin journal) (IsRunFailed disk begin journal) past (line ∷ rest) m n before now
  fresh_unbegun A end config past line rest m n before now since h keeps w =
      subst (λ x. EndsScript end x (IsRunKept disk x begin journal) (IsRunFailed disk begin journal) past (line ∷ rest) m n before now) (sym same)
      (ends_unbegun disk begin (has_journal journal) journal refl own_low A end (IsRunFailed disk begin journal) config past line rest m n before now since h keeps w)

  -- memory ran out behind the configuration
  pub fresh_broke : (config : ConfigParts) (past : Bool) (line : List ℕ) (rest : List (List ℕ)) (m n : ℕ) (now : Option (List ℕ)) → LeavesSince disk begin journal (DuringStart (disk.may_leave begin) config) →
      IsLineRead line 1 true [] m n (Ok (reads.Config config)) → KeepsIn disk.may_leave config [] None journal →
      EndsScript ends.Memory base (IsRunKept disk base begin journal) (IsRunFailed disk begin journal) past (line ∷ rest) m n now now
  fresh_broke config past line rest m n now since h keeps =
      subst (λ x. EndsScript ends.Memory x (IsRunKept disk x begin journal) (IsRunFailed disk begin journal) past (line ∷ rest) m n now now) (sym same)
      (broke_config disk begin (has_journal journal) journal refl own_low config line rest m n now now since h keeps (0, Appends-nil now))

  module _ (since : LeavesSince disk begin journal (disk.may_leave begin)) (empty : IsEmpty disk.may_leave journal) where
    pub fresh_first : (end : Ended) (past : Bool) (line : List ℕ) (rest all : List (List ℕ)) (m n : ℕ) (now : Option (List ℕ)) → all ≡ line ∷ rest → ReadsNext (Err end) line 1 true [] m n →
        EndsScript end base (IsRunKept disk base begin journal) (IsRunFailed disk begin journal) past all m n now now
    fresh_first end past line rest all m n now split h =
        subst (λ x. EndsScript end x (IsRunKept disk x begin journal) (IsRunFailed disk begin journal) past all m n now now) (sym same)
        (ends_first disk begin (has_journal journal) journal refl own_low since empty end (IsRunFailed disk begin journal) past line rest all m n now split h)

    pub fresh_lines : (end : Ended) (past : Bool) (lines : List (List ℕ)) (m : ℕ) (now : Option (List ℕ)) → end ≡ cond past ends.Limit (ends.AtFault 1 faults_of.ConfigPlace) → lines ≡ [] →
        EndsScript end base (IsRunKept disk base begin journal) (IsRunFailed disk begin journal) past lines m m now now
    fresh_lines end past lines m now is none =
        subst (λ x. EndsScript end x (IsRunKept disk x begin journal) (IsRunFailed disk begin journal) past lines m m now now) (sym same)
        (no_lines disk begin (has_journal journal) journal refl own_low since empty end (IsRunFailed disk begin journal) past lines m now is none)
