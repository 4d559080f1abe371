use Rattle.emu_names.proofs.KeyOrder.{exact_keys}
use Rattle.emu_names.proofs.names.keys_in_order.Goals as goal

pub returns-clause-exact : goal.returns-clause-exact
returns-clause-exact c = exact_keys
