use Rattle.eql_columns.proofs.Bits.{found_exit, turned_exit}
use Rattle.eql_columns.proofs.rows.turn_unless.Goals as goal

pub returns-then-found : goal.returns-then-found
returns-then-found c = found_exit c.args.found c.args.row.now c.if-found.true

pub returns : goal.returns
returns c = turned_exit c.args.found c.args.row.now c.turn.new.row c.if-found.false c.turn.ensures
