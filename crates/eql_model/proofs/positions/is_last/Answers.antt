use Rattle.level_items.specs.Levels.{ids_of}
use Rattle.std.proofs.Common.{get_or}
use Rattle.eql_model.proofs.Places.{last_answer, last_none}
use Rattle.eql_model.proofs.positions.is_last.Goals as goal

pub returns-in-Some : goal.returns-in-Some
returns-in-Some c =
    last_answer c.args.row.now c.args.lowers.now c.in-Some.last c.args.at c.index-lowers-last.result c.index-lowers-at.result
    c.requires.wide c.requires.at c.in-Some.ensures

pub returns-in-None : goal.returns-in-None
returns-in-None c =
    last_none c.args.row.now (ids_of c.args.lowers.now) (get_or (ids_of c.args.lowers.now) c.args.at 0) c.in-None.ensures
