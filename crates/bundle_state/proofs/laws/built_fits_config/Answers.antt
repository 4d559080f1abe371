use Rattle.bundle_state.proofs.BuiltKept.{built_fits}
use Rattle.bundle_state.proofs.laws.built_fits_config.Goals as goal

pub returns : goal.returns
returns c = built_fits
