use Rattle.bundle_state.proofs.LinksKept.{all_given}
use Rattle.bundle_state.proofs.laws.built_links_are_given.Goals as goal

pub returns : goal.returns
returns c = all_given
