-- What is between a live run and what its status says.
use Rattle.std.specs.Prelude.{IsTrue, ◌≡◌, ◌⊎◌, ℕ, Bool, List, [], Option, Some, Ok}
use Rattle.std.specs.Io.KnownBytes.{Appends, IsAtEnd}
use Rattle.emu_names.specs.Count.{Rose}
use Rattle.emu_io.specs.Fronts.{Tells, WritesFront}
use Rattle.db_config.specs.declared.parts.ConfigParts.{ConfigParts}
use Rattle.db_config.specs.Valid.{is_valid}
use Rattle.live_run.specs.edit_rules.declared.acts.Entry.{Entry}
use Rattle.edit_journal.specs.declared.journal.Journal.{Journal}
use Rattle.live_run.specs.session_core.declared.line.Line.{Line}
use Rattle.live_run.specs.session_core.declared.line.Reply.{Reply}
use Rattle.live_run.specs.session_core.InOrder.{ComeInOrder}
use Rattle.live_run.specs.live_book.Kept.{BookParts, KeepsIn, faults_in}
use Rattle.live_run.specs.live_book.Commits.{has_journal}
use Rattle.live_run.specs.declared.run.Ended.{Ended as LiveEnded}
use Rattle.program_output.specs.declared.status.Status.{Status}
use Rattle.program_output.specs.declared.status.Status.TheVariants as statuses
use Rattle.script_runs.specs.Scripts.{AskedLine, AreRead, Parsed, lines_of, script_of}
use Rattle.script_runs.specs.Runs.{Setting}
use Rattle.script_runs.specs.Inner.Reads.{GivesConfig}
use Rattle.script_runs.specs.Lives.{IfDoubted, LivesUnder}
use Rattle.script_runs.specs.LiveTexts.{live_text}

-- what a live run over a book is given, by the journal that it leaves
abbrev pub over_book : {D : Type 0} → (D → ℕ) → BookParts D → Option (Journal D) → Setting
over_book faults book journal = record {
  config = Some book.config;
  opening = book.history;
  store = has_journal book.journal;
  faults = faults_in faults book.journal;
  faults_after = faults_in faults journal;
}

-- the journal of a live run holds its configuration and the history that it leaves; in doubt may be one entry more,
-- where the disk refused some edit of the run
pub record KeepsLive {D : Type 0} (may_leave : D → List ℕ → Type 0) (config : ConfigParts) (replies : List Reply)
    (history : List Entry) (journal : Option (Journal D)) : Type 0 where
  pub lost : Option Entry
  pub why : IfDoubted replies lost
  pub keeps : KeepsIn may_leave config history lost journal

-- the sessions were run over a book, under a configuration that keeps its rules, and their answers written, or a front
-- of them
pub record LivesOver {D : Type 0} (may_leave : D → List ℕ → Type 0) (faults : D → ℕ) (book : BookParts D)
    (given : Bool) (lines : List Line) (journal : Option (Journal D)) (Writes : List ℕ → Type 0) : Type 0 where
  pub ended : LiveEnded
  pub history : List Entry
  pub run : IsTrue (is_valid book.config) → LivesUnder (over_book faults book journal) book.config lines ended history
  pub kept : KeepsLive may_leave book.config ended.replies history journal
  pub stored : has_journal journal ≡ has_journal book.journal
  pub output : Writes (live_text given ended)

-- how a live run over a book ends; before the first line memory may run out, and then all is as it was
abbrev pub EndsOver : {D : Type 0} → Status → (D → List ℕ → Type 0) → (D → ℕ) → BookParts D → Bool → List Line
    → Option (Journal D) → Option (List ℕ) → Option (List ℕ) → ℕ → ℕ → Type 0
EndsOver statuses.Fine may_leave faults book given lines journal before now writes writes_now =
    LivesOver may_leave faults book given lines journal (Appends before now)
EndsOver statuses.Write may_leave faults book given lines journal before now writes writes_now =
    Rose writes writes_now × LivesOver may_leave faults book given lines journal (WritesFront before now)
EndsOver statuses.Memory may_leave faults book given lines journal before now writes writes_now =
    LivesOver may_leave faults book given lines journal (WritesFront before now)
    ⊎ ((journal ≡ book.journal) × Appends before now [])
EndsOver status may_leave faults book given lines journal before now writes writes_now = ⊥

-- a source had this script, which has to give a configuration or not: it was read whole, and nothing ends it early
pub record WasRead (wants : Bool) (left left_after : Option (List ℕ)) (refusals refusals_after : ℕ) (parsed : Parsed)
    : Type 0 where
  pub text : List ℕ
  pub told : Tells left text
  pub at_end : IsAtEnd left_after
  pub lines : List AskedLine
  pub read : AreRead lines (lines_of text) refusals refusals_after
  pub script : script_of wants text lines ≡ Some (Ok parsed)
  pub come : ComeInOrder [] parsed.requests
  pub gives : GivesConfig wants parsed.config
