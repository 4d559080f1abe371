-- How far a run has come, and how it ends.
use Rattle.std.specs.Prelude.{true, false, ◌≡◌, ◌⊎◌, ℕ, ◌+◌, ◌≤◌, Bool, List, [], ◌∷◌, ◌++◌, length, take, Option, Some, None, Result, Ok, Err}
use Rattle.std.specs.Io.KnownBytes.{Appends}
use Rattle.emu_names.specs.Count.{Rose, RoseBy}
use Rattle.db_config.specs.declared.parts.ConfigParts.{ConfigParts}
use Rattle.live_run.specs.edit_rules.declared.acts.Entry.{Entry}
use Rattle.live_run.specs.session_core.declared.line.Line.{Line}
use Rattle.live_run.specs.session_core.Steps.{start}
use Rattle.live_run.specs.session_core.InOrder.{Outage, disk_outages, in_turn}
use Rattle.emu_disk.specs.Disk.{LeavesOnly}
use Rattle.emu_disk.specs.declared.disk.Disk as disks
use Rattle.edit_journal.specs.declared.journal.Journal.{Journal}
use Rattle.edit_journal.specs.Held.{disk_of}
use Rattle.book_opening.specs.declared.fault.OpenFault.{OpenFault}
use Rattle.book_opening.specs.declared.fault.OpenFault.TheVariants as opens
use Rattle.live_run.specs.live_book.Histories.{HeadPassesLimit}
use Rattle.live_run.specs.live_book.Kept.{KeepsIn, faults_in}
use Rattle.live_run.specs.live_book.Commits.{has_journal}
use Rattle.book_opening.specs.Opens.{DuringNew}
use Rattle.book_opening.specs.Inner.Opens.{IsEmpty}
use Rattle.session_run.specs.Inner.Orders.{state_of}
use Rattle.script_lines.specs.declared.faults.ReadLine.TheVariants as reads
use Rattle.program_output.specs.declared.ended.Ended.{Ended}
use Rattle.program_output.specs.declared.ended.Ended.TheVariants as ends
use Rattle.script_runs.specs.declared.running.Running.{Running}
use Rattle.script_runs.specs.Scripts.{AskedLine, AreRead, Parsed, read_from, with_read, parse, parse_line, parsed_front, passes_limit, script_from, Stop, limit, at_fault, earlier_of}
use Rattle.script_runs.specs.Bases.{Base, wants_by, is_stored, opening_by, config_by, counted, IfRefused, LeavesStore, EachOf, AtEach, AtMoment}
use Rattle.script_runs.specs.Runs.{run_text, run_texts, WritesToLast}
use Rattle.script_runs.specs.Inner.Runs.{history_by}

-- What the requests of a script leave in the journal.

-- The journal of a run holds its configuration and the history that it leaves, and perhaps one entry more, which is
-- the change of a line that the disk refused
pub record KeepsHistory {D : Type 0} (may_leave : D → List ℕ → Type 0) (store : Bool) (config : ConfigParts)
    (opening : List Entry) (lines : List Line) (outages : List Outage) (history : List Entry)
    (journal : Option (Journal D)) : Type 0 where
  pub lost : Option Entry
  pub why : IfRefused store (start config opening) lines outages lost
  pub keeps : KeepsIn may_leave config history lost journal

-- without a configuration the journal has no bodies
abbrev pub KeepsStore : {D : Type 0} → (D → List ℕ → Type 0) → Bool → Option ConfigParts → List Entry → List Line
    → List Outage → List Entry → Option (Journal D) → Type 0
KeepsStore may_leave store None opening lines outages history journal = IsEmpty may_leave journal
KeepsStore may_leave store (Some config) opening lines outages history journal =
    KeepsHistory may_leave store config opening lines outages history journal

-- The requests of a script were run over a base, when the disk's count of faults was this: each has its place among
-- the outages, the count rose as they say, and the journal keeps what they leave
pub record IsKept {D : Type 0} (may_leave : D → List ℕ → Type 0) (faults : D → ℕ) (base : Base) (begin : ℕ)
    (journal : Option (Journal D)) (p : Parsed) (outages : List Outage) : Type 0 where
  pub each : length outages ≡ length p.requests
  pub stored : has_journal journal ≡ is_stored base
  pub rose : RoseBy (disk_outages (is_stored base) outages) (counted base begin) (faults_in faults journal)
  pub kept : KeepsStore may_leave (is_stored base) (config_by base p.config) (opening_by base) p.requests outages
      (history_by base p outages) journal

-- a crash at any moment since a run began left bytes that have P, where there is a journal
abbrev pub LeavesSince : {D : Type 0} → disks.Ghosts D → D → Option (Journal D) → (List ℕ → Type 0) → Type 0
LeavesSince disk begin None P = Unit {0}
LeavesSince disk begin (Some journal) P = LeavesOnly disk.moment disk.left_since begin (disk_of journal) P

-- what a crash at some moment of a run may have left, behind these requests
abbrev pub AtMomentOf : (List ℕ → Type 0) → Base → Parsed → List Outage → List ℕ → Type 0
AtMomentOf before base p outages c =
    AtMoment before base (config_by base p.config) p.requests outages (history_by base p outages) c

-- The requests of a script were run over a base, since a disk was this one: the journal keeps what they leave, the
-- history is no shorter than the one before them, and a crash at any moment left what it may
pub record IsRunKept {D : Type 0} (disk : disks.Ghosts D) (base : Base) (begin : D) (journal : Option (Journal D))
    (p : Parsed) (outages : List Outage) : Type 0 where
  pub kept : IsKept disk.may_leave disk.faults base (disk.faults begin) journal p outages
  pub longer : length (opening_by base) ≤ length (history_by base p outages)
  pub moments : LeavesSince disk begin journal (AtMomentOf (disk.may_leave begin) base p outages)

-- The same without the journal: of the disk's count and of its images behind the run
pub record IsDone (base : Base) (begin now : ℕ) (images : List ℕ → Type 0) (p : Parsed) (outages : List Outage)
    : Type 0 where
  pub each : length outages ≡ length p.requests
  pub rose : RoseBy (disk_outages (is_stored base) outages) (counted base begin) (counted base now)
  pub left : LeavesStore (is_stored base) (config_by base p.config) (opening_by base) p.requests outages
      (history_by base p outages) images

-- with what a crash at some moment of the run left
pub record IsRunDone (base : Base) (begin now : ℕ) (before since images : List ℕ → Type 0) (p : Parsed)
    (outages : List Outage) : Type 0 where
  pub done : IsDone base begin now images p outages
  pub moments : AtEach (is_stored base) since (AtMomentOf before base p outages)

-- a count is not above that of a journal's disk, where there is a journal
abbrev pub IsBeginOf : {D : Type 0} → (D → ℕ) → Base → Option (Journal D) → ℕ → Type 0
IsBeginOf faults base journal begin = counted base begin ≤ faults_in faults journal

-- Between two lines.

-- the run stands behind what was read of the script
pub record IsAt {D : Type 0} (base : Base) (running : Running D) (config : ConfigParts) (p : Parsed)
    (outages : List Outage) : Type 0 where
  pub begun : config_by base p.config ≡ Some config
  pub wants : p.wants ≡ false
  pub book : running.core.book.config ≡ config
  pub state : state_of running.core ≡
      (in_turn (is_stored base) (start config (opening_by base)) p.requests outages).1
  pub earlier : running.earlier ≡ earlier_of p.requests
  pub number : running.number ≡ p.number

-- the run stands behind the line of its configuration, or before the first line where the store has one
pub record IsBegun {D : Type 0} (may_leave : D → List ℕ → Type 0) (config : ConfigParts) (opening : List Entry)
    (count : ℕ) (running : Running D) : Type 0 where
  pub book : running.core.book.config ≡ config
  pub state : state_of running.core ≡ start config opening
  pub kept : KeepsIn may_leave config opening None running.core.book.journal
  pub earlier : running.earlier ≡ []
  pub number : running.number ≡ count

-- the lines so far were read and run, and their replies written
pub record Reached {D : Type 0} (disk : disks.Ghosts D) (base : Base) (begin : D)
    (config : ConfigParts) (lines : List (List ℕ)) (running : Running D)
    (refusals refusals_now : ℕ) (before now : Option (List ℕ)) : Type 0 where
  pub asked : List AskedLine
  pub read : AreRead asked lines refusals refusals_now
  pub parsed : Parsed
  pub script : parse (read_from (wants_by base)) asked ≡ Ok parsed
  pub outages : List Outage
  pub at : IsAt base running config parsed outages
  pub done : IsRunKept disk base begin running.core.book.journal parsed outages
  pub output : Appends before now (run_text base parsed outages)

-- How a run ends. `Done` says what is known of the requests that were run, and of the places where memory ran out
-- or the disk failed.

-- the lines were read and run, and their replies written, but the last perhaps in part
pub record Broke (base : Base) (Done : Parsed → List Outage → Type 0) (lines : List (List ℕ))
    (refusals refusals_now : ℕ) (before now : Option (List ℕ)) : Type 0 where
  pub asked : List AskedLine
  pub read : AreRead asked lines refusals refusals_now
  pub parsed : Parsed
  pub script : parse (read_from (wants_by base)) asked ≡ Ok parsed
  pub outages : List Outage
  pub done : Done parsed outages
  pub output : WritesToLast before now (run_texts base parsed outages)

-- the lines were run and their replies written, and the next line passes a limit
pub record IsOver (base : Base) (Done : Parsed → List Outage → Type 0) (lines : List (List ℕ)) (line : List ℕ)
    (refusals refusals_now : ℕ) (before now : Option (List ℕ)) : Type 0 where
  pub asked : List AskedLine
  pub read : AreRead asked lines refusals refusals_now
  pub parsed : Parsed
  pub script : parse (read_from (wants_by base)) asked ≡ Ok parsed
  pub over : passes_limit (parsed.number + 1) line ≡ true
  pub outages : List Outage
  pub done : Done parsed outages
  pub output : Appends before now (run_text base parsed outages)

-- the lines were run and their replies written, and the next line was read and stops the script
pub record Stopped (base : Base) (Done : Parsed → List Outage → Type 0) (stop : Stop) (lines : List (List ℕ))
    (line : List ℕ) (refusals refusals_now : ℕ) (before now : Option (List ℕ)) : Type 0 where
  pub asked : List AskedLine
  pub last : AskedLine
  pub read : AreRead (asked ++ last ∷ []) (lines ++ line ∷ []) refusals refusals_now
  pub parsed : Parsed
  pub script : parse (read_from (wants_by base)) asked ≡ Ok parsed
  pub stops : parse_line parsed last ≡ Err stop
  pub outages : List Outage
  pub done : Done parsed outages
  pub output : Appends before now (run_text base parsed outages)

-- the end of a run behind these lines, or behind these lines and one more
abbrev pub EndsOnLine : Ended → Base → (Parsed → List Outage → Type 0) → List (List ℕ) → List ℕ →
    ℕ → ℕ → Option (List ℕ) → Option (List ℕ) → Type 0
EndsOnLine ends.Limit base Done lines line refusals refusals_now before now =
    IsOver base Done lines line refusals refusals_now before now
EndsOnLine (ends.AtFault number fault) base Done lines line refusals refusals_now before now =
    Stopped base Done (at_fault number fault) lines line refusals refusals_now before now
EndsOnLine ends.Write base Done lines line refusals refusals_now before now =
    Broke base Done lines refusals refusals_now before now
    ⊎ Broke base Done (lines ++ line ∷ []) refusals refusals_now before now
EndsOnLine ends.Memory base Done lines line refusals refusals_now before now =
    Broke base Done lines refusals refusals_now before now
    ⊎ Broke base Done (lines ++ line ∷ []) refusals refusals_now before now
EndsOnLine ends.NoRoom base Done lines line refusals refusals_now before now = ⊥
EndsOnLine ends.Disk base Done lines line refusals refusals_now before now = ⊥

-- one line was run
abbrev pub RunsLine : {A : Type 0} {D : Type 0} → Result A Ended → disks.Ghosts D → Base → D →
    Running D → ConfigParts → List (List ℕ) → List ℕ → ℕ → ℕ → Option (List ℕ) → Option (List ℕ) → Type 0
RunsLine (Ok x) disk base begin running config lines line refusals refusals_now before now =
    Reached disk base begin config (lines ++ line ∷ []) running refusals refusals_now before now
RunsLine (Err end) disk base begin running config lines line refusals refusals_now before now =
    EndsOnLine end base (IsRunKept disk base begin running.core.book.journal) lines line
    refusals refusals_now before now

-- all lines were read and run, and their replies written
pub record RanAll (base : Base) (Done : Parsed → List Outage → Type 0) (lines : List (List ℕ))
    (refusals refusals_now : ℕ) (before now : Option (List ℕ)) : Type 0 where
  pub asked : List AskedLine
  pub read : AreRead asked lines refusals refusals_now
  pub parsed : Parsed
  pub config : ConfigParts
  pub begun : config_by base parsed.config ≡ Some config
  pub wants : parsed.wants ≡ false
  pub script : parse (read_from (wants_by base)) asked ≡ Ok parsed
  pub outages : List Outage
  pub done : Done parsed outages
  pub output : Appends before now (run_text base parsed outages)

-- the first lines were read and run, and their replies written, but the last perhaps in part
pub record BrokeIn (base : Base) (Done : Parsed → List Outage → Type 0) (lines : List (List ℕ))
    (refusals refusals_now : ℕ) (before now : Option (List ℕ)) : Type 0 where
  pub asked : List AskedLine
  pub read : AreRead asked (take (length asked) lines) refusals refusals_now
  pub parsed : Parsed
  pub script : parse (read_from (wants_by base)) asked ≡ Ok parsed
  pub outages : List Outage
  pub done : Done parsed outages
  pub output : WritesToLast before now (run_texts base parsed outages)

-- a whole script was read and run, and its replies written
pub record RanScript (base : Base) (Done : Parsed → List Outage → Type 0) (past : Bool) (lines : List (List ℕ))
    (refusals refusals_now : ℕ) (before now : Option (List ℕ)) : Type 0 where
  pub asked : List AskedLine
  pub read : AreRead asked lines refusals refusals_now
  pub parsed : Parsed
  pub script : script_from (wants_by base) past lines asked ≡ Some (Ok parsed)
  pub whole : parse (read_from (wants_by base)) asked ≡ Ok parsed
  pub outages : List Outage
  pub done : Done parsed outages
  pub output : Appends before now (run_text base parsed outages)

-- something ends the script early; the lines before it were run and their replies written
pub record StoppedScript (base : Base) (Done : Parsed → List Outage → Type 0) (stop : Stop) (past : Bool)
    (lines : List (List ℕ)) (refusals refusals_now : ℕ) (before now : Option (List ℕ)) : Type 0 where
  pub asked : List AskedLine
  pub read : AreRead asked (take (length asked) lines) refusals refusals_now
  pub script : script_from (wants_by base) past lines asked ≡ Some (Err stop)
  pub done_lines : ℕ
  pub front : parse (read_from (wants_by base)) (take done_lines asked) ≡
      Ok (parsed_front (read_from (wants_by base)) asked)
  pub outages : List Outage
  pub done : Done (parsed_front (read_from (wants_by base)) asked) outages
  pub output : Appends before now (run_text base (parsed_front (read_from (wants_by base)) asked) outages)

-- the first line gave this configuration, and nothing was written
pub record GaveConfig (config : ConfigParts) (lines : List (List ℕ)) (refusals refusals_now : ℕ)
    (before now : Option (List ℕ)) : Type 0 where
  pub first : AskedLine
  pub read : AreRead (first ∷ []) (take 1 lines) refusals refusals_now
  pub given : parse_line (read_from true) first ≡ Ok (with_read (read_from true) (reads.Config config))
  pub output : Appends before now []

-- the store has no room for the configuration of the script
pub record IsTooLong (base : Base) (Done : Parsed → List Outage → Type 0) (lines : List (List ℕ))
    (refusals refusals_now : ℕ) (before now : Option (List ℕ)) : Type 0 where
  pub config : ConfigParts
  pub gave : GaveConfig config lines refusals refusals_now before now
  pub stored : is_stored base ≡ true
  pub wants : wants_by base ≡ true
  pub over : HeadPassesLimit config
  pub done : Done (read_from true) []

-- the configuration of the script could not be written into the store
pub record IsUnwritten (base : Base) (Failed : ConfigParts → Type 0) (lines : List (List ℕ))
    (refusals refusals_now : ℕ) (before now : Option (List ℕ)) : Type 0 where
  pub config : ConfigParts
  pub gave : GaveConfig config lines refusals refusals_now before now
  pub stored : is_stored base ≡ true
  pub wants : wants_by base ≡ true
  pub failed : Failed config

-- a whole script ends early: stopped by a limit or a line at fault, or broken off. `Failed` says what is known where
-- its configuration could not be written
abbrev pub EndsScript : Ended → Base → (Parsed → List Outage → Type 0) → (ConfigParts → Type 0) → Bool →
    List (List ℕ) → ℕ → ℕ → Option (List ℕ) → Option (List ℕ) → Type 0
EndsScript ends.Limit base Done Failed past lines refusals refusals_now before now =
    StoppedScript base Done limit past lines refusals refusals_now before now
EndsScript (ends.AtFault number fault) base Done Failed past lines refusals refusals_now before now =
    StoppedScript base Done (at_fault number fault) past lines refusals refusals_now before now
EndsScript ends.Write base Done Failed past lines refusals refusals_now before now =
    BrokeIn base Done lines refusals refusals_now before now
EndsScript ends.Memory base Done Failed past lines refusals refusals_now before now =
    BrokeIn base Done lines refusals refusals_now before now
EndsScript ends.NoRoom base Done Failed past lines refusals refusals_now before now =
    IsTooLong base Done lines refusals refusals_now before now
EndsScript ends.Disk base Done Failed past lines refusals refusals_now before now =
    IsUnwritten base Failed lines refusals refusals_now before now

-- all lines were run, or the script ends early; its configuration is there
abbrev pub RunsLines : {A : Type 0} → Result A Ended → Base → (Parsed → List Outage → Type 0) → Bool →
    List (List ℕ) → ℕ → ℕ → Option (List ℕ) → Option (List ℕ) → Type 0
RunsLines (Ok x) base Done past lines refusals refusals_now before now =
    RanAll base Done lines refusals refusals_now before now
RunsLines (Err end) base Done past lines refusals refusals_now before now =
    EndsScript end base Done (λ config. ⊥) past lines refusals refusals_now before now

-- the whole script was run, or ends early
abbrev pub RunsScript : {A : Type 0} → Result A Ended → Base → (Parsed → List Outage → Type 0) →
    (ConfigParts → Type 0) → Bool → List (List ℕ) → ℕ → ℕ → Option (List ℕ) → Option (List ℕ) → Type 0
RunsScript (Ok x) base Done Failed past lines refusals refusals_now before now =
    RanScript base Done past lines refusals refusals_now before now
RunsScript (Err end) base Done Failed past lines refusals refusals_now before now =
    EndsScript end base Done Failed past lines refusals refusals_now before now

-- while a configuration is written each image was possible before, or is bare, or has it alone
abbrev pub DuringStart : (List ℕ → Type 0) → ConfigParts → List ℕ → Type 0
DuringStart before config c = before c ⊎ DuringNew config c

-- what is known of a journal where the configuration could not be written: the disk's count rose, and each image is
-- bare, or has the configuration alone
pub record IsFailed {D : Type 0} (may_leave : D → List ℕ → Type 0) (faults : D → ℕ) (begin : ℕ)
    (journal : Option (Journal D)) (config : ConfigParts) : Type 0 where
  pub cause : Rose begin (faults_in faults journal)
  pub images : (own : Journal D) → journal ≡ Some own → EachOf (may_leave (disk_of own)) (DuringNew config)

-- the same, with what a crash at any moment since a disk was this one left
pub record IsRunFailed {D : Type 0} (disk : disks.Ghosts D) (begin : D) (journal : Option (Journal D))
    (config : ConfigParts) : Type 0 where
  pub failed : IsFailed disk.may_leave disk.faults (disk.faults begin) journal config
  pub moments : LeavesSince disk begin journal (DuringStart (disk.may_leave begin) config)

-- how a run ends for which no book could be made
abbrev pub IsEndFor : OpenFault → Ended → Type 0
IsEndFor opens.StoreFull end = end ≡ ends.NoRoom
IsEndFor opens.Disk end = end ≡ ends.Disk
IsEndFor (opens.Damaged at) end = end ≡ ends.Memory
IsEndFor opens.Memory end = end ≡ ends.Memory

-- between two lines of a loop: these lines were run, and those of the rest come next
pub record InLines {D : Type 0} (disk : disks.Ghosts D) (base : Base) (begin : D)
    (config : ConfigParts) (all : List (List ℕ)) (rest : List (List ℕ)) (running : Running D)
    (refusals refusals_now : ℕ) (before now : Option (List ℕ)) : Type 0 where
  pub done : List (List ℕ)
  pub split : all ≡ done ++ rest
  pub reached : Reached disk base begin config done running refusals refusals_now before now
