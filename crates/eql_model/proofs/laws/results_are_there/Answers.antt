use Rattle.eql_model.proofs.Shown.{results_there}
use Rattle.eql_model.proofs.laws.results_are_there.Goals as goal

pub returns : goal.returns
returns c = results_there
