use Rattle.bundle_state.proofs.FittedKept.{fitted_fits, fitted_rules, same_ids, same_count}
use Rattle.bundle_state.proofs.laws.fitted_bundles_keep_rules.Goals as goal

pub returns : goal.returns
returns c = record { fits = fitted_fits; rules = fitted_rules; ids = same_ids; count = same_count }
