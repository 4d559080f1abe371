use Rattle.std.proofs.Common.{sym, ◌∙◌}
use Rattle.std.specs.List.{list_any}
use Rattle.level_items.specs.Levels.{ids_of}
use Rattle.eql_model.specs.Inner.Bits.{row_stands}
use Rattle.eql_model.proofs.Places.{rest_found, rest_passes}
use Rattle.eql_model.proofs.positions.some_stands.Goals as goal

pub returns-then-row_stands : goal.returns-then-row_stands
returns-then-row_stands c =
    rest_found (row_stands (ids_of c.args.lowers.now) c.args.place c.args.at) c.args.rows.now c.loop-upper.upper c.row.result.now
    (list_any (row_stands (ids_of c.args.lowers.now) c.args.place c.args.at) c.args.rows.now)
    c.loop-upper.invariant c.row.ensures (sym c.row_stands.ensures ∙ c.if-row_stands.true)

pub loop-upper-preserved : goal.loop-upper-preserved
loop-upper-preserved c =
    rest_passes (row_stands (ids_of c.args.lowers.now) c.args.place c.args.at) c.args.rows.now c.loop-upper.upper c.row.result.now
    (list_any (row_stands (ids_of c.args.lowers.now) c.args.place c.args.at) c.args.rows.now)
    c.loop-upper.invariant c.row.ensures (sym c.row_stands.ensures ∙ c.if-row_stands.false)
