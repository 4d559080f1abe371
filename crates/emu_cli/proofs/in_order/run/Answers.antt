use Rattle.script_runs.proofs.CompleteLemmas.{complete}
use Rattle.emu_cli.proofs.in_order.run.Goals as goal

pub returns-then-store-clause-complete : goal.returns-then-store-clause-complete
returns-then-store-clause-complete g c = λ f. complete _ f c.run_stored.result.status (g.D.Disk.may_leave c.args.disk) (g.D.Disk.left_since c.run_stored.result.disk (g.D.Disk.moment c.args.disk)) (g.D.Disk.may_leave c.run_stored.result.disk) (rw c.if-store.true c.run_stored.ensures.says)

pub returns-else-store-clause-complete : goal.returns-else-store-clause-complete
returns-else-store-clause-complete g c = λ f. complete _ f c.run_alone.result.status (g.D.Disk.may_leave c.args.disk) (g.D.Disk.left_since c.run_alone.result.disk (g.D.Disk.moment c.args.disk)) (g.D.Disk.may_leave c.run_alone.result.disk) (rw c.if-store.false c.run_alone.ensures.says)
