use Rattle.level_items.specs.Levels.{ids_of}
use Rattle.std.proofs.Common.{get_or}
use Rattle.eql_model.proofs.Places.{first_answer, first_none}
use Rattle.eql_model.proofs.positions.is_first.Goals as goal

pub returns-in-Some : goal.returns-in-Some
returns-in-Some c =
    first_answer c.args.row.now c.args.lowers.now c.in-Some.first c.args.at c.index-lowers-first.result c.index-lowers-at.result
    c.requires.wide c.requires.at c.in-Some.ensures

pub returns-in-None : goal.returns-in-None
returns-in-None c =
    first_none c.args.row.now (ids_of c.args.lowers.now) (get_or (ids_of c.args.lowers.now) c.args.at 0) c.in-None.ensures
