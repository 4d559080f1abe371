use Rattle.eql_resolve.proofs.Kept.{shown_there}
use Rattle.eql_resolve.proofs.laws.shown_is_there.Goals as goal

pub returns : goal.returns
returns c = shown_there
