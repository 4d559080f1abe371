use Rattle.version_steps.proofs.Configuring.{wider}
use Rattle.version_steps.proofs.next.next_configured.Goals as goal

pub with_config-requires : goal.with_config-requires
with_config-requires c = wider c.args.version.now c.args.edit.now c.config.result.now c.config.ensures c.in-Ok.config c.in-Ok.ensures
