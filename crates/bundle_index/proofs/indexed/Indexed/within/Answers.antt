use Rattle.std.proofs.Common.{map, ap, ◌∙◌}
use Rattle.lane_bits.specs.Inner.Row.{is_between}
use Rattle.level_items.specs.Levels.{items_at}
use Rattle.bundle_index.proofs.Asked.{row_same, range_is}
use Rattle.bundle_index.proofs.indexed.Indexed.within.Goals as goal

pub returns : goal.returns
returns c =
    row_same c.row_of_range.result _ _ c.row_of_range.ensures
    (ap (map (is_between c.args.low c.args.high)) c.starts.ensures
    ∙ range_is c.args.low c.args.high (items_at c.args.self.now.bundle.levels c.args.level))
