use Rattle.annot_json.proofs.Built.{given_builds}
use Rattle.annot_json.proofs.laws.given_makes_again.Goals as goal

pub returns : goal.returns
returns c = given_builds
