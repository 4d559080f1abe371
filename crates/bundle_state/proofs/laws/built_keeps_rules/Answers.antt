use Rattle.bundle_state.proofs.BuiltKept.{built_keeps}
use Rattle.bundle_state.proofs.laws.built_keeps_rules.Goals as goal

pub returns : goal.returns
returns c = built_keeps
