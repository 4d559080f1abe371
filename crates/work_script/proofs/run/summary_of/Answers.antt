use Rattle.std.proofs.Common.{Result, subst}
use Rattle.emu_names.specs.declared.shortage.Memory.{Memory}
use Rattle.live_run.specs.declared.run.Ended.{Ended}
use Rattle.live_run.specs.Inner.Runs.{EndsLive}
use Rattle.work_script.proofs.Ran.{run_summed}
use Rattle.work_script.proofs.run.summary_of.Goals as goal

pub returns-in-Ok : goal.returns-in-Ok
returns-in-Ok g c = λ before number count config history ends script.
    run_summed g.D.Disk.may_leave g.D.Disk.faults before c.args.book.now c.args.lines.now c.in-Ok.ended number count c.sum_up.result config history
    (subst (λ (e : Result Ended Memory). EndsLive g.D.Disk.may_leave g.D.Disk.faults before c.args.lines.now e c.args.book.now) c.in-Ok.is ends)
    script c.sum_up.ensures
