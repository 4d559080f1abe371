use Rattle.eql_laws.proofs.Mirrored.{mirrored}
use Rattle.eql_laws.proofs.laws.mirrors_agree.Goals as goal

pub returns : goal.returns
returns c = mirrored
