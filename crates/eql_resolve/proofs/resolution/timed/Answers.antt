use Rattle.std.specs.Option.{option_copied}
use Rattle.eql_resolve.specs.Inner.View.{query_in}
use Rattle.eql_resolve.proofs.Kept.{result_within}
use Rattle.eql_resolve.proofs.TimeLevel.{timed_ok, timed_err, timed_sound, timed_below}
use Rattle.eql_resolve.proofs.resolution.timed.Goals as goal

pub time_level-requires : goal.time_level-requires
time_level-requires c =
    rw c.result_level.ensures (result_within c.args.config.now (query_in c.args.query) c.requires.within)

pub returns-in-Ok-clause-asked : goal.returns-in-Ok-clause-asked
returns-in-Ok-clause-asked c =
    rw c.of.ensures (
    timed_ok c.args.config.now (query_in c.args.query) (option_copied c.args.time) c.result_level.result c.in-Ok.time c.result_level.ensures c.in-Ok.ensures.found)

pub returns-in-Ok-clause-sound : goal.returns-in-Ok-clause-sound
returns-in-Ok-clause-sound c =
    rw c.of.ensures (
    timed_sound c.args.config.now (query_in c.args.query) (option_copied c.args.time) c.result_level.result c.in-Ok.time c.requires c.in-Ok.ensures.found)

pub returns-in-Ok-clause-times : goal.returns-in-Ok-clause-times
returns-in-Ok-clause-times c =
    rw c.of.ensures (
    timed_below c.args.config.now (query_in c.args.query) (option_copied c.args.time) c.result_level.result c.in-Ok.time c.result_level.ensures c.in-Ok.ensures.found)

pub returns-clause-asked : goal.returns-clause-asked
returns-clause-asked c = λ other.
    timed_err c.args.config.now (query_in c.args.query) (option_copied c.args.time) c.result_level.result c.in-Err.fault c.result_level.ensures (c.in-Err.ensures.found other)
