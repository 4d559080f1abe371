use Rattle.std.proofs.Common.{◌-◌, ◌≤◌, length, take}
use Rattle.std.specs.Io.KnownBytes.{Appends}
use Rattle.emu_io.proofs.whole.write_all.Given as goal

-- the front up to `at` is written, and the count of faults never fell
abbrev pub invariant-turns : goal.invariant-turns
invariant-turns g l =
    record {
      front : Appends (g.K.Sink.written l.fn.sink) (g.K.Sink.written l.sink) (take l.at l.bytes);
      fits : l.at ≤ length l.bytes;
      later : g.K.Sink.faults l.fn.sink ≤ g.K.Sink.faults l.sink;
    }

abbrev pub decreases-turns : goal.decreases-turns
decreases-turns g l = length l.bytes - l.at
