use Rattle.edit_rules.proofs.Replay.{prefixes_are_legal}
use Rattle.edit_rules.proofs.laws.prefixes_are_legal.Goals as goal

pub returns : goal.returns
returns c = prefixes_are_legal
