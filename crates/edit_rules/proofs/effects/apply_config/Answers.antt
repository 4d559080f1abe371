use Rattle.edit_rules.proofs.Fits.{extends_by}
use Rattle.edit_rules.proofs.effects.apply_config.Goals as goal

pub refit-requires-clause-extends : goal.refit-requires-clause-extends
refit-requires-clause-extends c =
    extends_by c.args.edit.now c.args.database.now c.config.result.now c.config.ensures c.in-Ok.config c.in-Ok.ensures
