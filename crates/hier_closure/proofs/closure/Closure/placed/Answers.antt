use Rattle.hier_closure.proofs.Passes.{linked_none}
use Rattle.hier_closure.proofs.closure.Closure.placed.Goals as goal

pub kept-requires-clause-kept : goal.kept-requires-clause-kept
kept-requires-clause-kept c = linked_none c.args.bundle.now c.requires.stands.rules
