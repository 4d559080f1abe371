use Rattle.segment_list.proofs.Rising.{merged_once}
use Rattle.segment_list.proofs.laws.merges_are_one.Goals as goal

pub returns : goal.returns
returns c = merged_once
