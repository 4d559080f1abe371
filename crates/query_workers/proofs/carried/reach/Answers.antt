use Rattle.std.proofs.Common.{sym, subst}
use Rattle.eql_resolve.proofs.Kept.{level_there, result_within}
use Rattle.eql_match.proofs.of_eql_model.Fitting.{level_fits}
use Rattle.session_core.specs.requery.Inner.Sound.{IsTargetIn}
use Rattle.query_workers.proofs.carried.reach.Goals as goal

pub closure-requires-clause-upper : goal.closure-requires-clause-upper
closure-requires-clause-upper c =
    level_fits c.args.config.now c.args.indexed.now.bundle c.result_level-level.result c.requires.fits
    (rw (c.result_level-level.ensures, c.query.ensures, c.asked.ensures)
    (result_within c.args.config.now c.args.reached.now.asked.query c.requires.resolved.asked.within))

pub closure-requires-clause-lower : goal.closure-requires-clause-lower
closure-requires-clause-lower c =
    level_fits c.args.config.now c.args.indexed.now.bundle c.in-Level.place.level c.requires.fits
    (level_there c.args.config.now c.in-Level.place
    (subst (IsTargetIn c.args.config.now) (sym c.in-Level.ensures) c.requires.resolved.target))

pub closure-requires-in-Level-clause-upper : goal.closure-requires-in-Level-clause-upper
closure-requires-in-Level-clause-upper c =
    level_fits c.args.config.now c.args.indexed.now.bundle c.in-Level.place.level c.requires.fits
    (level_there c.args.config.now c.in-Level.place
    (subst (IsTargetIn c.args.config.now) (sym c.in-Level.ensures) c.requires.resolved.target))

pub closure-requires-in-Level-clause-lower : goal.closure-requires-in-Level-clause-lower
closure-requires-in-Level-clause-lower c =
    level_fits c.args.config.now c.args.indexed.now.bundle c.result_level-level.result c.requires.fits
    (rw (c.result_level-level.ensures, c.query.ensures, c.asked.ensures)
    (result_within c.args.config.now c.args.reached.now.asked.query c.requires.resolved.asked.within))

pub reach_between-requires-clause-level : goal.reach_between-requires-clause-level
reach_between-requires-clause-level c =
    rw (c.result_level-level.ensures, c.query.ensures, c.asked.ensures)
    (result_within c.args.config.now c.args.reached.now.asked.query c.requires.resolved.asked.within)

pub reach_near-requires-clause-level : goal.reach_near-requires-clause-level
reach_near-requires-clause-level c =
    rw (c.result_level-level.ensures, c.query.ensures, c.asked.ensures)
    (result_within c.args.config.now c.args.reached.now.asked.query c.requires.resolved.asked.within)
