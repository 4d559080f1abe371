use Rattle.std.proofs.Common.{true, Some, arith}
use Rattle.std.proofs.lemmas.Option.{slice_get_within}
use Rattle.lane_bits.specs.Inner.Row.{IsLast}
use Rattle.eql_syntax.specs.declared.query.Place.TheVariants.{End}
use Rattle.eql_columns.proofs.Standing.{adds_none, adds_end}
use Rattle.eql_columns.proofs.positions.add_last.Goals as goal

pub returns-in_default : goal.returns-in_default
returns-in_default c = adds_none c.args.row.now c.args.placed.now End c.requires c.in_default.ensures

pub set-requires : goal.set-requires
set-requires c =
    let last : IsLast c.args.row.now (Some c.in-Some.last) = c.in-Some.ensures in
    let within = slice_get_within c.args.row.now c.in-Some.last true last.0 in omega (arith, c.requires)

pub returns : goal.returns
returns c = adds_end c.args.row.now c.args.placed.now c.set.new.self c.in-Some.last c.requires c.in-Some.ensures c.set.ensures
