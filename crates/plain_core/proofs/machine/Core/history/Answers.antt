use Rattle.plain_core.proofs.machine.Core.history.Goals as goal

pub returns-clause-legal : goal.returns-clause-legal
returns-clause-legal c = rw (← c.self.view_is) (c.self.inside.database, c.self.invariant.present)
