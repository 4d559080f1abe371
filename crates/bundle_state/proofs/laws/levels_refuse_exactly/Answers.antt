use Rattle.bundle_state.proofs.Refusals.{refuses_exactly}
use Rattle.bundle_state.proofs.laws.levels_refuse_exactly.Goals as goal

pub returns : goal.returns
returns c = refuses_exactly
