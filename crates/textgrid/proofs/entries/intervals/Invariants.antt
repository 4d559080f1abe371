use Rattle.std.proofs.Common.{◌≡◌, ◌-◌}
use Rattle.textgrid.specs.Reading.{times_at, interval_at}
use Rattle.textgrid.specs.Inner.Reading.{behind}
use Rattle.textgrid.proofs.entries.intervals.Given as goal

abbrev pub invariant-loop : goal.invariant-loop
invariant-loop l = behind l.made (times_at interval_at (l.count - l.counter) l.values) ≡ times_at interval_at l.count l.initial.values
