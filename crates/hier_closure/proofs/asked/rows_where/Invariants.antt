use Rattle.hier_closure.specs.Dominance.{closure_of}
use Rattle.hier_closure.proofs.Agree.{AgreeTo}
use Rattle.hier_closure.proofs.asked.rows_where.Given as goal

-- the rows of the items so far
abbrev pub invariant-loop-position : goal.invariant-loop-position
invariant-loop-position l = AgreeTo l.asked (closure_of l.bundle l.lower l.level) l.rows l.position
