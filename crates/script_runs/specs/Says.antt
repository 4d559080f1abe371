-- What the status of a run says.
use Rattle.std.specs.Prelude.{◌≡◌, ◌⊎◌, ◌<◌, ◌-◌, ◌^◌, ℕ, Bool, true, false, List, [], ◌∷◌, ◌++◌, length, take, Option, Some, Ok, Err}
use Rattle.std.specs.Io.KnownBytes.{Appends, IsAtEnd}
use Rattle.emu_names.specs.Count.{Rose}
use Rattle.emu_io.specs.Fronts.{Tells, WritesFront}
use Rattle.db_config.specs.declared.parts.ConfigParts.{ConfigParts}
use Rattle.live_run.specs.edit_rules.declared.acts.Entry.{Entry}
use Rattle.live_run.specs.session_core.InOrder.{Outage}
use Rattle.script_lines.specs.declared.faults.LineFault.{LineFault}
use Rattle.script_lines.specs.declared.faults.ReadLine.TheVariants as reads
use Rattle.live_run.specs.live_book.Histories.{OfRead, IsBare, IsDamagedAt, HeadPassesLimit}
use Rattle.book_opening.specs.Opens.{DuringNew}
use Rattle.program_output.specs.Texts.{damaged_text}
use Rattle.program_output.specs.declared.status.Status.{Status}
use Rattle.program_output.specs.declared.status.Status.TheVariants as statuses
use Rattle.script_runs.specs.Scripts.{AskedLine, AreRead, Parsed, read_from, with_read, parse, parse_line, lines_of, script_of, front_of, IsSound, Stop, limit, at_fault}
use Rattle.script_runs.specs.Bases.{Base, wants_by, is_stored, opening_by, config_by, IsBaseOf, EachOf, LeavesStore, AtEach, AtMoment}
use Rattle.script_runs.specs.Runs.{run_text, run_texts, setting_by, IsRunFrom, WritesToLast, stop_text}
use Rattle.program_output.specs.Texts.{limit_text}

-- Of a call that runs a script: whether it has a store, and what a read of the disk gives before it; what the source
-- had left before and after it, what the sink held before and after it, and before and after it the counts of
-- faults of the source, of the sink and of the disk, and the count of the maker's refusals. Where the source does
-- not tell what it has left, the script is some text; where it tells, the script is that. So it is with the disk.
pub record Call : Type 0 where
  pub store : Bool
  pub stored : Option (List ℕ)
  pub left : Option (List ℕ)
  pub left_after : Option (List ℕ)
  pub written : Option (List ℕ)
  pub written_after : Option (List ℕ)
  pub reads : ℕ
  pub reads_after : ℕ
  pub writes : ℕ
  pub writes_after : ℕ
  pub refusals : ℕ
  pub refusals_after : ℕ
  pub faults : ℕ
  pub faults_after : ℕ

-- what a crash at the exit may leave of the store of a run
abbrev pub Leaves : Base → Parsed → List Outage → List Entry → (List ℕ → Type 0) → Type 0
Leaves base p outages history images =
    LeavesStore (is_stored base) (config_by base p.config) (opening_by base) p.requests outages history images

-- what a crash at some moment of a run may have left of its store
abbrev pub Moments : Base → Parsed → List Outage → List Entry → (List ℕ → Type 0) → (List ℕ → Type 0) → Type 0
Moments base p outages history before since =
    AtEach (is_stored base) since
    (AtMoment before base (config_by base p.config) p.requests outages history)

-- The script of a call was read, or the first of its lines: what the call begins with, the text, and the lines that
-- were read with what the maker made of their queries
pub record HasRead (call : Call) : Type 0 where
  pub base : Base
  pub begins : IsBaseOf call.store call.stored base
  pub text : List ℕ
  pub told : Tells call.left text
  pub lines : List AskedLine
  pub read : AreRead lines (take (length lines) (lines_of text)) call.refusals call.refusals_after

-- 0: the script was read to its end, each line with what the maker made of its query, nothing ends it
-- early, and what was written is the text of a legal run of all its requests
pub record RanWhole (call : Call) (before since images : List ℕ → Type 0) : Type 0 where
  pub has : HasRead call
  pub at_end : IsAtEnd call.left_after
  pub parsed : Parsed
  pub script : script_of (wants_by has.base) has.text has.lines ≡ Some (Ok parsed)
  pub outages : List Outage
  pub history : List Entry
  pub run : IsRunFrom (setting_by has.base parsed call.faults call.faults_after) parsed outages history
  pub leaves : Leaves has.base parsed outages history images
  pub moments : Moments has.base parsed outages history before since
  pub output : Appends call.written call.written_after (run_text has.base parsed outages)

-- 3 and 9: a line at fault, which was read, or a limit ends the script; the lines before it were run, and
-- what was written is the text of their legal run and then the last line
pub record EndedEarly (call : Call) (before since images : List ℕ → Type 0) (stop : Stop) : Type 0 where
  pub has : HasRead call
  pub script : script_of (wants_by has.base) has.text has.lines ≡ Some (Err stop)
  pub outages : List Outage
  pub history : List Entry
  pub run : IsRunFrom (setting_by has.base (front_of (wants_by has.base) has.lines) call.faults call.faults_after)
      (front_of (wants_by has.base) has.lines) outages history
  pub leaves : Leaves has.base (front_of (wants_by has.base) has.lines) outages history images
  pub moments : Moments has.base (front_of (wants_by has.base) has.lines) outages history before since
  pub output : Appends call.written call.written_after
      (run_text has.base (front_of (wants_by has.base) has.lines) outages ++ stop_text stop)

-- 3: the first line at fault
pub record FoundFault (call : Call) (before since images : List ℕ → Type 0) : Type 0 where
  pub number : ℕ
  pub fault : LineFault
  pub stopped : EndedEarly call before since images (at_fault number fault)

-- the store is bare, and the first line of the script was read and gives this configuration
pub record Gives (call : Call) (config : ConfigParts) : Type 0 where
  pub stored : call.store ≡ true
  pub bare : OfRead call.stored IsBare
  pub text : List ℕ
  pub told : Tells call.left text
  pub first : AskedLine
  pub read : AreRead (first ∷ []) (take 1 (lines_of text)) call.refusals call.refusals_after
  pub given : parse_line (read_from true) first ≡ Ok (with_read (read_from true) (reads.Config config))

-- 9: the store has no room for the script's configuration; it stays bare, no line is done, and the last line alone
-- was written
pub record TooLong (call : Call) (images : List ℕ → Type 0) (Writes : List ℕ → Type 0) : Type 0 where
  pub config : ConfigParts
  pub gives : Gives call config
  pub over : HeadPassesLimit config
  pub leaves : EachOf images IsBare
  pub output : Writes limit_text

-- the store was damaged at a place
pub record IsDamage (call : Call) (at : ℕ) : Type 0 where
  pub stored : call.store ≡ true
  pub damaged : OfRead call.stored (λ c. IsDamagedAt c at)

-- 7: the store stands for no configuration and history; the last line alone was written, and no image is new
pub record FoundDamage (call : Call) (before images : List ℕ → Type 0) : Type 0 where
  pub at : ℕ
  pub damage : IsDamage call at
  pub leaves : EachOf images before
  pub output : Appends call.written call.written_after (damaged_text at)

-- the last line of a run that was to end early, behind the run of all lines before
pub record IsLastLine (base : Base) (text : List ℕ) (lines : List AskedLine) (parsed : Parsed)
    (last : List (List ℕ)) : Type 0 where
  pub stop : Stop
  pub script : script_of (wants_by base) text lines ≡ Some (Err stop)
  pub front : parsed ≡ front_of (wants_by base) lines
  pub line : last ≡ stop_text stop ∷ []

-- 5 and 8: the first of the lines that were read were run, a line being among them also where its reply could not be
-- written; behind them there may be a last line. Each text was written whole before the next line was run: what was
-- written is all of them but the last, and a front of that
pub record Unfinished (call : Call) (before since images : List ℕ → Type 0) : Type 0 where
  pub has : HasRead call
  pub done : ℕ
  pub parsed : Parsed
  pub script : parse (read_from (wants_by has.base)) (take done has.lines) ≡ Ok parsed
  pub outages : List Outage
  pub history : List Entry
  pub run : IsRunFrom (setting_by has.base parsed call.faults call.faults_after) parsed outages history
  pub leaves : Leaves has.base parsed outages history images
  pub moments : Moments has.base parsed outages history before since
  pub last : List (List ℕ)
  pub line : (last ≡ []) ⊎ IsLastLine has.base has.text has.lines parsed last
  pub output : WritesToLast call.written call.written_after (run_texts has.base parsed outages ++ last)

-- 5 and 8, where the store was not opened: what was written is a front of the last line, if there is one, and no
-- image is new
pub record Unopened (call : Call) (before images : List ℕ → Type 0) : Type 0 where
  pub stored : call.store ≡ true
  pub leaves : EachOf images before
  pub last : List ℕ
  pub line : (last ≡ []) ⊎ ((at : ℕ) × IsDamage call at × (last ≡ damaged_text at))
  pub output : WritesFront call.written call.written_after last

-- each image of some moment was possible before the call, or is bare
abbrev pub StaysBare : (List ℕ → Type 0) → (List ℕ → Type 0) → Type 0
StaysBare before since = EachOf since (λ c. before c ⊎ IsBare c)

-- 5 and 8: a front of what was to be written
abbrev pub BrokeOff : Call → (List ℕ → Type 0) → (List ℕ → Type 0) → (List ℕ → Type 0) → Type 0
BrokeOff call before since images =
    Unfinished call before since images
    ⊎ ((TooLong call images (WritesFront call.written call.written_after) × StaysBare before since)
    ⊎ (Unopened call before images × EachOf since before))

-- 4: a read failed; the script is read before its first line is run, so no line was done
pub record ReadFailed (call : Call) (images : List ℕ → Type 0) : Type 0 where
  pub base : Base
  pub begins : IsBaseOf call.store call.stored base
  pub cause : Rose call.reads call.reads_after
  pub leaves : Leaves base (read_from (wants_by base)) [] (opening_by base) images
  pub output : Appends call.written call.written_after []

-- 5: a write failed
pub record WriteFailed (call : Call) (before since images : List ℕ → Type 0) : Type 0 where
  pub cause : Rose call.writes call.writes_after
  pub output : BrokeOff call before since images

-- the configuration of a script could not be written: each image is bare, or has the configuration alone
pub record LeavesConfig (call : Call) (images : List ℕ → Type 0) : Type 0 where
  pub config : ConfigParts
  pub gives : Gives call config
  pub each : EachOf images (DuringNew config)

-- 6: the disk failed while the store was opened, so that no image is new, or while the script's configuration was
-- written; nothing was written, and no line was done
pub record DiskFailed (call : Call) (before images : List ℕ → Type 0) : Type 0 where
  pub stored : call.store ≡ true
  pub cause : Rose call.faults call.faults_after
  pub leaves : EachOf images before ⊎ LeavesConfig call images
  pub output : Appends call.written call.written_after []

-- while the store was opened, or the script's configuration written, each image was possible before the call, or is
-- bare or has that configuration alone
abbrev pub DuringOpening : Call → (List ℕ → Type 0) → List ℕ → Type 0
DuringOpening call before c = before c ⊎ ((config : ConfigParts) × Gives call config × DuringNew config c)

-- What each status says of a call, of the images of its disk before it, of those of some moment since then, and of
-- those after it
abbrev pub Says : Status → Call → (List ℕ → Type 0) → (List ℕ → Type 0) → (List ℕ → Type 0) → Type 0
Says statuses.Fine call before since images = RanWhole call before since images
Says statuses.Usage call before since images = ⊥
Says statuses.Script call before since images = FoundFault call before since images
Says statuses.Read call before since images =
    (failed : ReadFailed call images)
    × Moments failed.base (read_from (wants_by failed.base)) [] (opening_by failed.base) before since
Says statuses.Write call before since images = WriteFailed call before since images
Says statuses.Disk call before since images =
    DiskFailed call before images × EachOf since (DuringOpening call before)
Says statuses.Damaged call before since images = FoundDamage call before images × EachOf since before
Says statuses.Memory call before since images = BrokeOff call before since images
Says statuses.Limit call before since images =
    EndedEarly call before since images limit
    ⊎ (TooLong call images (Appends call.written call.written_after) × StaysBare before since)
Says statuses.Refused call before since images = ⊥

-- the script is sound, and a bare store has room for the configuration that it gives
pub record IsSoundFor (base : Base) (text : List ℕ) : Type 0 where
  pub sound : IsSound (wants_by base) text
  pub room : (first : AskedLine) (config : ConfigParts) → is_stored base ≡ true →
      (first.line ∷ [] ≡ take 1 (lines_of text)) →
      parse_line (read_from true) first ≡ Ok (with_read (read_from true) (reads.Config config)) →
      HeadPassesLimit config → ⊥

-- where there is a store, it tells its bytes
abbrev pub IsStoreTold : Bool → Option (List ℕ) → Type 0
IsStoreTold false stored = Unit {0}
IsStoreTold true stored = (bytes : List ℕ) × (stored ≡ Some bytes)

-- a call whose outside is faultless: the store, if there is one, is bare or stands for a history; nothing ends the
-- script early, whatever the maker makes of its queries; and no count of faults rises or stands at its end
pub record IsFaultless (call : Call) : Type 0 where
  pub base : Base
  pub begins : IsBaseOf call.store call.stored base
  pub store_known : IsStoreTold call.store call.stored
  pub text : List ℕ
  pub known : call.left ≡ Some text
  pub sound : IsSoundFor base text
  pub reads : call.reads_after ≡ call.reads
  pub writes : call.writes_after ≡ call.writes
  pub faults : call.faults_after ≡ call.faults
  pub reads_room : call.reads < 2 ^ 64 - 1
  pub writes_room : call.writes < 2 ^ 64 - 1
  pub faults_room : call.faults < 2 ^ 64 - 1

-- where nothing is wrong outside or in the script, only want of memory keeps a run from its end
abbrev pub Completes : Call → Status → Type 0
Completes call status = IsFaultless call → (status ≡ statuses.Fine) ⊎ (status ≡ statuses.Memory)
