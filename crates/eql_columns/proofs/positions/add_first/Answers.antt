use Rattle.std.proofs.Common.{true, Some, arith}
use Rattle.std.proofs.lemmas.Option.{slice_get_within}
use Rattle.lane_bits.specs.Inner.Row.{IsFirst}
use Rattle.eql_syntax.specs.declared.query.Place.TheVariants.{Start}
use Rattle.eql_columns.proofs.Standing.{adds_none, adds_start}
use Rattle.eql_columns.proofs.positions.add_first.Goals as goal

pub returns-in_default : goal.returns-in_default
returns-in_default c = adds_none c.args.row.now c.args.placed.now Start c.requires c.in_default.ensures

pub set-requires : goal.set-requires
set-requires c =
    let first : IsFirst c.args.row.now (Some c.in-Some.first) = c.in-Some.ensures in
    let within = slice_get_within c.args.row.now c.in-Some.first true first.0 in omega (arith, c.requires)

pub returns : goal.returns
returns c = adds_start c.args.row.now c.args.placed.now c.set.new.self c.in-Some.first c.requires c.in-Some.ensures c.set.ensures
