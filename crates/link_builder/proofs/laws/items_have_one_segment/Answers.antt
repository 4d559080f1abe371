use Rattle.link_builder.proofs.Single.{items_in_one}
use Rattle.link_builder.proofs.laws.items_have_one_segment.Goals as goal

pub returns : goal.returns
returns c = items_in_one
