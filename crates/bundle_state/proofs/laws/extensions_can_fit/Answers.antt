use Rattle.bundle_state.proofs.FittedKept.{extensions_can_fit}
use Rattle.bundle_state.proofs.laws.extensions_can_fit.Goals as goal

pub returns : goal.returns
returns c = extensions_can_fit
