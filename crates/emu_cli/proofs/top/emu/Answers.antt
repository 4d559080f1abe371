use Rattle.emu_cli.proofs.CallLemmas.{complete_code}
use Rattle.emu_cli.proofs.Completes.{command_code}
use Rattle.emu_cli.proofs.top.emu.Goals as goal

pub returns-clause-complete : goal.returns-clause-complete
returns-clause-complete g c = λ store r faultless. complete_code c.perform-status.result.status c.code.result c.code.ensures (c.perform-status.ensures.complete store r faultless)

pub returns-clause-commands : goal.returns-clause-commands
returns-clause-commands g c = λ asks faultless. command_code c.perform-status.result.status c.code.result c.code.ensures (c.perform-status.ensures.commands asks faultless)

pub returns-clause-works : goal.returns-clause-works
returns-clause-works g c = λ number bundles w same room. complete_code c.perform-status.result.status c.code.result c.code.ensures (c.perform-status.ensures.works number bundles w same room)
