-- Words of contracts and loops beside `specs/Says.antt`; no promise of the program rests on them.
use Rattle.std.specs.Prelude.{ℕ, Bool, List, Option}
use Rattle.script_runs.specs.Says.{Call}

-- a call of these parts
abbrev pub call_of : Bool → Option (List ℕ) → Option (List ℕ) → Option (List ℕ) → Option (List ℕ) → Option (List ℕ) →
    ℕ → ℕ → ℕ → ℕ → ℕ → ℕ → ℕ → ℕ → Call
call_of store stored left left_after written written_after reads reads_after writes writes_after
    refusals refusals_after faults faults_after =
    record {
      store = store;
      stored = stored;
      left = left;
      left_after = left_after;
      written = written;
      written_after = written_after;
      reads = reads;
      reads_after = reads_after;
      writes = writes;
      writes_after = writes_after;
      refusals = refusals;
      refusals_after = refusals_after;
      faults = faults;
      faults_after = faults_after;
    }
