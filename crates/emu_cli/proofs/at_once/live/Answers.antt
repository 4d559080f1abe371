use Rattle.script_runs.proofs.CompleteLemmas.{complete_live}
use Rattle.emu_cli.proofs.at_once.live.Goals as goal

pub returns-then-store-clause-complete : goal.returns-then-store-clause-complete
returns-then-store-clause-complete g c = λ f. complete_live _ f c.live_stored.result.status (g.D.Disk.may_leave c.args.disk) (g.D.Disk.may_leave c.live_stored.result.disk) (rw c.if-store.true c.live_stored.ensures.says)

pub returns-else-store-clause-complete : goal.returns-else-store-clause-complete
returns-else-store-clause-complete g c = λ f. complete_live _ f c.live_alone.result.status (g.D.Disk.may_leave c.args.disk) (g.D.Disk.may_leave c.live_alone.result.disk) (rw c.if-store.false c.live_alone.ensures.says)
