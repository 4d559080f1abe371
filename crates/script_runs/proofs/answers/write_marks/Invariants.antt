use Rattle.std.proofs.Common.{◌≤◌, take}
use Rattle.std.specs.List.{flat_map}
use Rattle.std.specs.Io.KnownBytes.{Appends}
use Rattle.script_runs.specs.LiveTexts.{text_of_mark}
use Rattle.script_runs.proofs.answers.write_marks.Given as goal

-- the texts so far were written
abbrev pub invariant-loop-place : goal.invariant-loop-place
invariant-loop-place g l =
    Appends (g.K.Sink.written l.fn.out) (g.K.Sink.written l.out) (flat_map text_of_mark (take l.place l.fn.marks))
    × (g.K.Sink.faults l.fn.out ≤ g.K.Sink.faults l.out)
