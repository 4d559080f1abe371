-- What a status says, by what source, sink, disk and maker of patterns tell before a call and after it.
use Rattle.std.specs.Prelude.{ℕ, Bool, List, Option}
use Rattle.emu_io.specs.declared.traits.Source as sources
use Rattle.emu_io.specs.declared.traits.Sink as sinks
use Rattle.emu_disk.specs.declared.disk.Disk as disks
use Rattle.label_match.specs.declared.maker.PatternMaker as makers
use Rattle.program_output.specs.declared.ending.Ending.{Ending}
use Rattle.program_output.specs.declared.status.Status.{Status}
use Rattle.script_runs.specs.Says.{Call, Completes, Says}
use Rattle.program_output.specs.Statuses.{Finishes}
use Rattle.script_runs.specs.Lives.{SaysLive}

-- what a source tells: what it had left before a call and after it, and how often it had failed
pub record SourceTold : Type 0 where
  pub left : Option (List ℕ)
  pub left_after : Option (List ℕ)
  pub reads : ℕ
  pub reads_after : ℕ

-- the same, by the source itself
abbrev pub source_told : {S : Type 0} → sources.Ghosts S → S → S → SourceTold
source_told source before after = record {
  left = source.left before;
  left_after = source.left after;
  reads = source.faults before;
  reads_after = source.faults after;
}

-- A call whose source tells this, and whose maker had refused so many patterns before it and after it.
module _ {K D : Type 0} (sink : sinks.Ghosts K) (disk : disks.Ghosts D) (store : Bool) (told : SourceTold)
    (refusals refusals_after : ℕ) (out out_after : K) (before after : D) where
  -- the call
  abbrev pub call_told : Call
  call_told = record {
    store = store;
    stored = disk.reads before;
    left = told.left;
    left_after = told.left_after;
    written = sink.written out;
    written_after = sink.written out_after;
    reads = told.reads;
    reads_after = told.reads_after;
    writes = sink.faults out;
    writes_after = sink.faults out_after;
    refusals = refusals;
    refusals_after = refusals_after;
    faults = disk.faults before;
    faults_after = disk.faults after;
  }

  -- what a status says of it, where it is a live run
  abbrev pub SaysLiveTold : Status → Type 0
  SaysLiveTold status = SaysLive status call_told (disk.may_leave before) (disk.may_leave after)

-- A call by its source, its sink, its disk and its maker.
module _ {S K D P : Type 0} (source : sources.Ghosts S) (sink : sinks.Ghosts K) (disk : disks.Ghosts D)
    (maker : makers.Ghosts P) (store : Bool) (script script_after : S) (out out_after : K) (before after : D)
    (patterns patterns_after : P) where
  -- the call
  abbrev pub call_by : Call
  call_by = call_told sink disk store (source_told source script script_after) (maker.refusals patterns)
      (maker.refusals patterns_after) out out_after before after

  -- what a status says of it
  abbrev pub SaysBy : Status → Type 0
  SaysBy status =
      Says status call_by (disk.may_leave before) (disk.left_since after (disk.moment before)) (disk.may_leave after)

  -- what a status says of it, where it is a live run
  abbrev pub SaysLiveBy : Status → Type 0
  SaysLiveBy status = SaysLive status call_by (disk.may_leave before) (disk.may_leave after)

  -- where nothing is wrong outside or in the script, only want of memory keeps it from its end
  abbrev pub CompletesBy : Status → Type 0
  CompletesBy status = Completes call_by status

-- the text of an ending was written, by the sink
abbrev pub FinishesBy : {K : Type 0} → sinks.Ghosts K → K → K → Status → Ending → Type 0
FinishesBy sink out out_after status ending =
    Finishes status (sink.written out) (sink.written out_after) (sink.faults out) (sink.faults out_after) ending
