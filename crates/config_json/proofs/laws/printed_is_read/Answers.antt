use Rattle.config_json.proofs.ReadBack.{config_back}
use Rattle.config_json.proofs.laws.printed_is_read.Goals as goal

pub returns : goal.returns
returns c = config_back
