use Rattle.std.proofs.Common.{sym, subst}
use Rattle.eql_resolve.proofs.Kept.{level_there, result_within}
use Rattle.eql_model.proofs.Fitting.{level_fits}
use Rattle.requery.specs.Inner.Sound.{IsTargetIn}
use Rattle.requery.proofs.plain.reach_plain.Goals as goal

pub between-requires-clause-upper : goal.between-requires-clause-upper
between-requires-clause-upper c =
    level_fits c.args.config.now c.args.bundle.now c.result_level-level.result c.requires.fits
    (rw (c.result_level-level.ensures, c.query.ensures, c.asked.ensures)
    (result_within c.args.config.now c.args.reached.now.asked.query c.requires.resolved.asked.within))

pub between-requires-clause-lower : goal.between-requires-clause-lower
between-requires-clause-lower c =
    level_fits c.args.config.now c.args.bundle.now c.in-Level.place.level c.requires.fits
    (level_there c.args.config.now c.in-Level.place
    (subst (IsTargetIn c.args.config.now) (sym c.in-Level.ensures) c.requires.resolved.target))

pub between-requires-in-Level-clause-upper : goal.between-requires-in-Level-clause-upper
between-requires-in-Level-clause-upper c =
    level_fits c.args.config.now c.args.bundle.now c.in-Level.place.level c.requires.fits
    (level_there c.args.config.now c.in-Level.place
    (subst (IsTargetIn c.args.config.now) (sym c.in-Level.ensures) c.requires.resolved.target))

pub between-requires-in-Level-clause-lower : goal.between-requires-in-Level-clause-lower
between-requires-in-Level-clause-lower c =
    level_fits c.args.config.now c.args.bundle.now c.result_level-level.result c.requires.fits
    (rw (c.result_level-level.ensures, c.query.ensures, c.asked.ensures)
    (result_within c.args.config.now c.args.reached.now.asked.query c.requires.resolved.asked.within))

pub reach_between-requires-clause-level : goal.reach_between-requires-clause-level
reach_between-requires-clause-level c =
    rw (c.result_level-level.ensures, c.query.ensures, c.asked.ensures)
    (result_within c.args.config.now c.args.reached.now.asked.query c.requires.resolved.asked.within)

pub reach_near-requires-clause-level : goal.reach_near-requires-clause-level
reach_near-requires-clause-level c =
    rw (c.result_level-level.ensures, c.query.ensures, c.asked.ensures)
    (result_within c.args.config.now c.args.reached.now.asked.query c.requires.resolved.asked.within)
