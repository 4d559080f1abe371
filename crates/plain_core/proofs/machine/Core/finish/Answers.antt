use Rattle.session_core.proofs.Keeping.{kept_closed, closed_step}
use Rattle.plain_core.proofs.machine.Core.finish.Goals as goal

pub invariant_of-self-2 : goal.invariant_of-self-2
invariant_of-self-2 c = kept_closed _ _ _ _ _ _ _ _ _ _ _ c.in_ok-reply.ensures.ok c.self.invariant

pub returns-clause-ok : goal.returns-clause-ok
returns-clause-ok c =
    rw (← c.self.view_is) (closed_step _ _ _ _ _ _ _ _ _ c.in_ok-reply.ensures.ok c.self.invariant.of_looks)
