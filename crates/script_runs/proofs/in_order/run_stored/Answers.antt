use Rattle.script_runs.proofs.EndLemmas.{not_full, says_no_store}
use Rattle.script_runs.proofs.BookLemmas.{now_leaves}
use Rattle.script_runs.proofs.in_order.run_stored.Goals as goal

pub returns-in-Ok : goal.returns-in-Ok
returns-in-Ok g c = record { says = c.run_over_store.ensures.says c.args.disk c.in-Ok.ensures.opened c.in-Ok.ensures.later c.in-Ok.ensures.any_moment }

pub returns-in-Err : goal.returns-in-Err
returns-in-Err g c = record {
  says =
      says_no_store g.D.Disk.faults c.args.disk c.in-Err.refused.disk (g.D.Disk.reads c.args.disk) (g.S.Source.left c.args.script.now) (g.K.Sink.written c.args.out.now) (g.K.Sink.written c.unopened.new.out) (g.S.Source.faults c.args.script.now) (g.K.Sink.faults c.args.out.now) (g.K.Sink.faults c.unopened.new.out) (g.P.PatternMaker.refusals c.args.patterns.now) (g.D.Disk.may_leave c.args.disk) (g.D.Disk.left_since c.in-Err.refused.disk (g.D.Disk.moment c.args.disk)) (g.D.Disk.may_leave c.in-Err.refused.disk)
      (now_leaves g.D.Disk.may_leave g.D.Disk.moment g.D.Disk.left_since g.met.D.Disk.counts_now c.args.disk c.in-Err.refused.disk (g.D.Disk.may_leave c.args.disk) c.in-Err.ensures.any_moment_err) c.in-Err.ensures.any_moment_err.each c.in-Err.refused.fault c.unopened.result c.in-Err.ensures.refused c.unopened.ensures;
}

pub unopened-requires : goal.unopened-requires
unopened-requires g c = not_full (g.D.Disk.reads c.args.disk) g.D.Disk.faults c.args.disk c.in-Err.refused.disk c.in-Err.refused.fault c.in-Err.ensures.refused
