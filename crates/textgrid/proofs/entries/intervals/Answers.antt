use Rattle.std.proofs.Common.{◌-◌, ◌+◌, arith}
use Rattle.textgrid.specs.Reading.{interval_at, times_at}
use Rattle.textgrid.proofs.Times.{times_next, times_end}
use Rattle.textgrid.proofs.entries.intervals.Goals as goal

pub returns-in_err-entry : goal.returns-in_err-entry
returns-in_err-entry c =
    times_end interval_at c.loop.made c.from_residual.result c.in_err-entry.field-0.0 (c.args.count - c.loop.counter) (c.args.count - (c.loop.counter + 1)) c.args.count c.loop.values c.args.values.now c.interval.new.values (omega arith) c.in_err-entry.ensures c.loop.invariant c.from_residual.ensures.1

pub loop-preserved : goal.loop-preserved
loop-preserved c =
    times_next interval_at c.loop.made c.push.new.self c.in_ok-entry.entry (c.args.count - c.loop.counter) (c.args.count - (c.loop.counter + 1)) c.loop.values c.interval.new.values (times_at interval_at c.args.count c.args.values.now) (omega arith) c.in_ok-entry.ensures c.in_ok-push.ensures.ok c.loop.invariant
