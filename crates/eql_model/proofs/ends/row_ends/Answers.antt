use Rattle.eql_model.proofs.RowEnds.{first_to_last, no_last, no_bit}
use Rattle.eql_model.proofs.ends.row_ends.Goals as goal

pub returns-in-Some-last : goal.returns-in-Some-last
returns-in-Some-last c =
    first_to_last c.args.row.now c.in-Some.first c.in-Some-last.last c.in-Some.ensures c.in-Some-last.ensures

pub returns-in-None-last : goal.returns-in-None-last
returns-in-None-last c = no_last c.args.row.now c.in-Some.first c.in-Some.ensures c.in-None-last.ensures

pub returns-in-None : goal.returns-in-None
returns-in-None c = no_bit c.args.row.now c.in-None.ensures
