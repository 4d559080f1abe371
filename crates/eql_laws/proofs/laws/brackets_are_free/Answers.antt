use Rattle.eql_laws.proofs.Grouped.{brackets_free}
use Rattle.eql_laws.proofs.laws.brackets_are_free.Goals as goal

pub returns : goal.returns
returns c = brackets_free
