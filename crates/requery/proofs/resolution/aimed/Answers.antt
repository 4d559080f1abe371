use Rattle.eql_resolve.specs.Asked.{result_level}
use Rattle.requery.specs.Target.{level_reached}
use Rattle.requery.proofs.Levels.{reached_within}
use Rattle.requery.proofs.resolution.aimed.Goals as goal

pub time_level-requires : goal.time_level-requires
time_level-requires c =
    rw (c.level_from-level.ensures, c.result_level.ensures, c.query.ensures)
    (reached_within c.args.config.now c.args.asked c.args.target c.requires.asked c.requires.target)
