use Rattle.annot_json.proofs.ReadBack.{annot_back}
use Rattle.annot_json.proofs.laws.printed_is_read.Goals as goal

pub returns : goal.returns
returns c = annot_back
