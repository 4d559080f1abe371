use Rattle.eql_model.proofs.Fitting.{tuples_fit}
use Rattle.eql_model.proofs.laws.tuples_lie_on_level.Goals as goal

pub returns : goal.returns
returns c = tuples_fit
