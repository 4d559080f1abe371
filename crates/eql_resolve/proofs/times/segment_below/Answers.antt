use Rattle.std.proofs.Common.{◌<◌, length, sym, ◌∙◌, arith}
use Rattle.eql_resolve.specs.Resolve.{gives_times}
use Rattle.eql_resolve.proofs.Steps.{below_hit, below_miss}
use Rattle.eql_resolve.proofs.times.segment_below.Goals as goal
use Rattle.eql_resolve.proofs.times.segment_below.Goals.{then-gives_times+else-is_some, else-gives_times}

pub loop-other-preserved : goal.loop-other-preserved
loop-other-preserved c =
    let there : c.loop-other.other < length c.args.config.now.levels = omega arith in
    elim c.if-gives_times.branch [
      | then-gives_times+else-is_some w ↦ below_hit (gives_times c.args.config.now c.args.level) c.loop-other.found c.if-gives_times.found c.loop-other.other (length c.args.config.now.levels) _ there (sym c.gives_times.ensures ∙ w.if-gives_times.true) (sym w.is_some.ensures ∙ w.if-is_some.false) w.found-is c.loop-other.invariant
      | else-gives_times w ↦ below_miss (gives_times c.args.config.now c.args.level) c.loop-other.found c.if-gives_times.found c.loop-other.other (length c.args.config.now.levels) _ there (sym c.gives_times.ensures ∙ w.if-gives_times.false) w.found-is c.loop-other.invariant
    ]
