-- The live run of a script: its sessions at once, and what each status says of it.
use Rattle.std.specs.Prelude.{IsTrue, ◌≡◌, ◌⊎◌, ◌<◌, ◌+◌, ℕ, Bool, true, false, List, [], ◌++◌, length, take, Option, Some, None, Ok, Err}
use Rattle.std.specs.Io.KnownBytes.{Appends, IsAtEnd}
use Rattle.emu_names.specs.Count.{Rose}
use Rattle.emu_io.specs.Fronts.{Tells, WritesFront}
use Rattle.db_config.specs.declared.parts.ConfigParts.{ConfigParts}
use Rattle.db_config.specs.Valid.{is_valid}
use Rattle.live_run.specs.edit_rules.declared.acts.Entry.{Entry}
use Rattle.live_run.specs.edit_rules.Database.{KeepsDatabaseRules}
use Rattle.live_run.specs.edit_rules.Effects.{database_after}
use Rattle.live_run.specs.session_core.declared.line.Line.{Line}
use Rattle.live_run.specs.session_core.declared.line.Reply.{Reply}
use Rattle.live_run.specs.session_core.InOrder.{ComeInOrder}
use Rattle.live_run.specs.session_core.Legal.{Legal, disk_replies}
use Rattle.live_run.specs.live_book.Kept.{LostMayFollow, StandsOrLost}
use Rattle.live_run.specs.declared.run.Ended.{Ended as LiveEnded}
use Rattle.live_run.specs.Runs.{AreGrouped}
use Rattle.live_run.specs.Marks.{marks_from}
use Rattle.program_output.specs.declared.status.Status.{Status}
use Rattle.program_output.specs.declared.status.Status.TheVariants as statuses
use Rattle.script_runs.specs.LiveTexts.{live_text}
use Rattle.script_runs.specs.Scripts.{AskedLine, AreRead, Parsed, lines_of, script_of, Stop, limit, at_fault}
use Rattle.script_runs.specs.Bases.{Base, wants_by, is_stored, opening_by, config_by, IsBaseOf, EachOf, LeavesStore}
use Rattle.script_runs.specs.Runs.{Setting, setting_by, stop_text}
use Rattle.script_runs.specs.Says.{Call, DiskFailed, FoundDamage, Gives, HasRead, ReadFailed, TooLong, Unopened}
use Rattle.script_lines.specs.declared.faults.LineFault.{LineFault}

-- A live run under a configuration: what it answered to these requests, beside the history that it leaves. It holds in
-- whatever order the sessions got on, and whatever the disk did.
pub record LivesUnder (setting : Setting) (config : ConfigParts) (requests : List Line) (ended : LiveEnded)
    (history : List Entry) : Type 0 where
  -- the configuration keeps its rules
  pub valid : IsTrue (is_valid config)
  -- the numbers of the requests rise, and what they name stands before them
  pub come : ComeInOrder [] requests
  -- the replies are legal beside the history, which goes on from the one before
  pub legal : Legal config setting.opening requests ended.replies history setting.store setting.faults
      setting.faults_after
  -- they are grouped by session in rising order
  pub order : AreGrouped ended.replies
  -- so many entries stood before the run, and there is a mark of each new one, in order
  pub from : ended.from ≡ length setting.opening
  pub more : List Entry
  pub prefix : history ≡ setting.opening ++ more
  pub marks : ended.marks ≡ marks_from (length setting.opening + 1) more
  -- the state after each beginning of the history keeps the rules
  pub states : (n : ℕ) → KeepsDatabaseRules (database_after config (take n history))

-- an entry that may stand in the store behind the history: only where the disk refused some edit of the run
abbrev pub IfDoubted : List Reply → Option Entry → Type 0
IfDoubted replies None = Unit {0}
IfDoubted replies (Some next) = 0 < disk_replies replies

-- each image stands for the configuration and the history, or also for these with one entry more, which breaks no rule
-- after them, and which can stand there only where the disk refused some edit of the run
pub record LeavesDoubt (config : ConfigParts) (replies : List Reply) (history : List Entry) (images : List ℕ → Type 0)
    : Type 0 where
  pub lost : Option Entry
  pub why : IfDoubted replies lost
  pub follows : LostMayFollow config history lost
  pub each : EachOf images (StandsOrLost config history lost)

-- what a live run leaves in its store, if there is one
abbrev pub LeavesLive : Bool → ConfigParts → List Reply → List Entry → (List ℕ → Type 0) → Type 0
LeavesLive false config replies history images = Unit {0}
LeavesLive true config replies history images = LeavesDoubt config replies history images

-- The whole script was read before its first line was run, nothing ends it early, and it was run
pub record LivesWhole (call : Call) (images : List ℕ → Type 0) (Writes : List ℕ → Type 0) : Type 0 where
  pub has : HasRead call
  pub at_end : IsAtEnd call.left_after
  pub parsed : Parsed
  pub script : script_of (wants_by has.base) has.text has.lines ≡ Some (Ok parsed)
  pub config : ConfigParts
  pub begun : config_by has.base parsed.config ≡ Some config
  pub ended : LiveEnded
  pub history : List Entry
  pub run : LivesUnder (setting_by has.base parsed call.faults call.faults_after) config parsed.requests ended history
  pub leaves : LeavesLive (is_stored has.base) config ended.replies history images
  pub output : Writes (live_text (wants_by has.base) ended)

-- a configuration that came into a bare store is the one that the script gives
abbrev pub IfGiven : Call → Option ConfigParts → Type 0
IfGiven call None = Unit {0}
IfGiven call (Some config) = Gives call config

-- No line was run, and no entry was added; the store's configuration may be the one that the script gives
pub record LivesNot (call : Call) (images : List ℕ → Type 0) : Type 0 where
  pub base : Base
  pub begins : IsBaseOf call.store call.stored base
  pub given : Option ConfigParts
  pub why : IfGiven call given
  pub leaves : LeavesStore (is_stored base) (config_by base given) (opening_by base) [] [] (opening_by base) images

-- A line at fault, which was read, or a limit ends the script; no line was run
pub record StoppedFirst (call : Call) (images : List ℕ → Type 0) (stop : Stop) (Writes : List ℕ → Type 0) : Type 0 where
  pub has : HasRead call
  pub script : script_of (wants_by has.base) has.text has.lines ≡ Some (Err stop)
  pub leaves : LeavesStore (is_stored has.base) (config_by has.base None) (opening_by has.base) [] [] (opening_by has.base) images
  pub output : Writes (stop_text stop)

-- a front of what was to be written, after the run or before it
abbrev pub WroteFront : Call → (List ℕ → Type 0) → (List ℕ → Type 0) → Type 0
WroteFront call before images =
    LivesWhole call images (WritesFront call.written call.written_after)
    ⊎ (((stop : Stop) × StoppedFirst call images stop (WritesFront call.written call.written_after))
    ⊎ (TooLong call images (WritesFront call.written call.written_after) ⊎ Unopened call before images))

-- 8: a front of what was to be written, or no line was run and nothing was written
abbrev pub BrokeLive : Call → (List ℕ → Type 0) → (List ℕ → Type 0) → Type 0
BrokeLive call before images =
    WroteFront call before images ⊎ (LivesNot call images × Appends call.written call.written_after [])

-- what each status says of a live run, of the images of its disk before it, and of those after it
abbrev pub SaysLive : Status → Call → (List ℕ → Type 0) → (List ℕ → Type 0) → Type 0
SaysLive statuses.Fine call before images = LivesWhole call images (Appends call.written call.written_after)
SaysLive statuses.Usage call before images = ⊥
SaysLive statuses.Script call before images =
    (number : ℕ) × (fault : LineFault)
    × StoppedFirst call images (at_fault number fault) (Appends call.written call.written_after)
SaysLive statuses.Read call before images = ReadFailed call images
SaysLive statuses.Write call before images = Rose call.writes call.writes_after × WroteFront call before images
SaysLive statuses.Disk call before images = DiskFailed call before images
SaysLive statuses.Damaged call before images = FoundDamage call before images
SaysLive statuses.Memory call before images = BrokeLive call before images
SaysLive statuses.Limit call before images =
    StoppedFirst call images limit (Appends call.written call.written_after)
    ⊎ TooLong call images (Appends call.written call.written_after)
SaysLive statuses.Refused call before images = ⊥
