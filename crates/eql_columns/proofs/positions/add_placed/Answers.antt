use Rattle.std.proofs.Common.{sym, subst}
use Rattle.eql_syntax.specs.declared.query.Place.{Place}
use Rattle.eql_columns.specs.Inner.Places.{AddsPlaced}
use Rattle.eql_columns.proofs.positions.add_placed.Goals as goal

pub returns-in-Start : goal.returns-in-Start
returns-in-Start c =
    subst (λ (p : Place). AddsPlaced p c.args.row.now c.args.placed.now c.add_first.new.placed) (sym c.in-Start.is) c.add_first.ensures

pub returns-in-End : goal.returns-in-End
returns-in-End c =
    subst (λ (p : Place). AddsPlaced p c.args.row.now c.args.placed.now c.add_last.new.placed) (sym c.in-End.is) c.add_last.ensures
