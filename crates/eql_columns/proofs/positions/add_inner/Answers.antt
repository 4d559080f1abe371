use Rattle.std.proofs.Common.{true, Some}
use Rattle.std.proofs.lemmas.Option.{slice_get_within}
use Rattle.lane_bits.specs.Inner.Row.{IsFirst, IsLast}
use Rattle.eql_syntax.specs.declared.query.Place.TheVariants.{Medial}
use Rattle.eql_columns.proofs.Standing.{adds_none, adds_medial}
use Rattle.eql_columns.proofs.positions.add_inner.Goals as goal

pub returns-in_default : goal.returns-in_default
returns-in_default c = adds_none c.args.row.now c.args.placed.now Medial c.requires c.in_default.ensures

pub returns-in_default-last : goal.returns-in_default-last
returns-in_default-last c = adds_none c.args.row.now c.args.placed.now Medial c.requires c.in_default-last.ensures

pub inner_bits-requires-clause-first : goal.inner_bits-requires-clause-first
inner_bits-requires-clause-first c =
    let first : IsFirst c.args.row.now (Some c.in-Some.first) = c.in-Some.ensures in
    slice_get_within c.args.row.now c.in-Some.first true first.0

pub inner_bits-requires-clause-last : goal.inner_bits-requires-clause-last
inner_bits-requires-clause-last c =
    let last : IsLast c.args.row.now (Some c.in-Some-last.last) = c.in-Some-last.ensures in
    slice_get_within c.args.row.now c.in-Some-last.last true last.0

pub returns : goal.returns
returns c =
    adds_medial c.args.row.now c.args.placed.now c.join_into.new.into c.in_ok-inner.inner c.in-Some.first c.in-Some-last.last c.requires
    c.in-Some.ensures c.in-Some-last.ensures c.in_ok-inner.ensures c.join_into.ensures
