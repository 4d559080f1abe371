use Rattle.eql_resolve.proofs.Marks.{mark_some}
use Rattle.eql_resolve.proofs.laws.marks_are_found.Goals as goal

pub returns : goal.returns
returns c = mark_some
