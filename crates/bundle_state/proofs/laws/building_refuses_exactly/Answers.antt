use Rattle.bundle_state.proofs.BuiltRefusals.{building_refuses}
use Rattle.bundle_state.proofs.laws.building_refuses_exactly.Goals as goal

pub returns : goal.returns
returns c = building_refuses
