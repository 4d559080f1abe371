use Rattle.std.specs.List.{filter_map}
use Rattle.eql_resolve.specs.Asked.{result_level}
use Rattle.session_core.specs.requery.Target.{level_reached}
use Rattle.session_core.specs.requery.Reach.{reach}
use Rattle.session_core.proofs.of_requery.Levels.{reached_within}
use Rattle.session_core.proofs.of_requery.Lists.{reached_there, there_same}
use Rattle.query_workers.proofs.carried.add_reached.Goals as goal

pub append_at-requires-clause-level : goal.append_at-requires-clause-level
append_at-requires-clause-level c =
    rw c.level-level.ensures
    (reached_within c.args.config.now c.args.reached.now.asked c.args.reached.now.target c.requires.resolved.asked c.requires.resolved.target)

pub append_at-requires-clause-spans : goal.append_at-requires-clause-spans
append_at-requires-clause-spans c =
    let level = result_level c.args.reached.now.asked.query in
    there_same c.args.config.now c.args.indexed.now.bundle (level_reached level c.args.reached.now.target) c.level-level.result
    (filter_map (reach c.args.indexed.now.bundle c.args.reached.now.target) c.args.spans.now) c.in_ok-made.made
    c.in_ok-made.ensures c.level-level.ensures
    (reached_there c.args.config.now c.args.indexed.now.bundle level c.args.reached.now.target c.args.spans.now c.requires.resolved.target c.requires.spans)
