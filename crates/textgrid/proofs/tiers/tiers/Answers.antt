use Rattle.std.proofs.Common.{◌-◌, ◌+◌, arith}
use Rattle.textgrid.specs.Reading.{tier_at, times_at}
use Rattle.textgrid.proofs.Times.{times_next, times_end}
use Rattle.textgrid.proofs.tiers.tiers.Goals as goal

pub returns-in_err-one : goal.returns-in_err-one
returns-in_err-one c =
    times_end tier_at c.loop.made c.from_residual.result c.in_err-one.field-0.0 (c.args.count - c.loop.counter) (c.args.count - (c.loop.counter + 1)) c.args.count c.loop.values c.args.values.now c.tier.new.values (omega arith) c.in_err-one.ensures c.loop.invariant c.from_residual.ensures.1

pub loop-preserved : goal.loop-preserved
loop-preserved c =
    times_next tier_at c.loop.made c.push.new.self c.in_ok-one.one (c.args.count - c.loop.counter) (c.args.count - (c.loop.counter + 1)) c.loop.values c.tier.new.values (times_at tier_at c.args.count c.args.values.now) (omega arith) c.in_ok-one.ensures c.in_ok-push.ensures.ok c.loop.invariant
