use Rattle.eql_model.proofs.Fitting.{level_fits}
use Rattle.eql_model.proofs.rows.rows_at.Goals as goal

pub rows_below-requires-clause-level : goal.rows_below-requires-clause-level
rows_below-requires-clause-level c =
    level_fits c.args.config.now c.args.bundle.now c.args.level c.requires.fits c.requires.level

pub between-requires-clause-upper : goal.between-requires-clause-upper
between-requires-clause-upper c =
    level_fits c.args.config.now c.args.bundle.now c.args.level c.requires.fits c.requires.level

pub rows_below-requires-2-clause-level : goal.rows_below-requires-2-clause-level
rows_below-requires-2-clause-level c =
    level_fits c.args.config.now c.args.bundle.now c.args.level c.requires.fits c.requires.level
