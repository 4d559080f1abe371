use Rattle.version_gate.proofs.Agreeing.{enters}
use Rattle.version_gate.proofs.pass.Pass.glimpse.Goals as goal

pub enter_as-requires : goal.enter_as-requires
enter_as-requires g c x = enters _ _ x
