use Rattle.edit_rules.proofs.Bundles.{change_one_bundle}
use Rattle.edit_rules.proofs.laws.acts_change_one_bundle.Goals as goal

pub returns : goal.returns
returns c = change_one_bundle
