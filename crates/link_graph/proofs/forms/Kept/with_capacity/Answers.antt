use Rattle.link_graph.proofs.Few.{few_none}
use Rattle.link_graph.proofs.forms.Kept.with_capacity.Goals as goal

pub returns-clause-kept : goal.returns-clause-kept
returns-clause-kept c = few_none _ c.in_ok-with_capacity.ensures
