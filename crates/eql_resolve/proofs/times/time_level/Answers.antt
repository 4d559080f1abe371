use Rattle.std.proofs.Common.{sym, ◌∙◌}
use Rattle.eql_resolve.proofs.TimeLevel.{alone_below}
use Rattle.eql_resolve.proofs.times.time_level.Goals as goal

pub returns-in-None-clause-below : goal.returns-in-None-clause-below
returns-in-None-clause-below c =
    alone_below c.args.config.now c.args.level c.segment_below.result
    (sym c.is_item_level.ensures ∙ c.if-is_item_level.true) c.segment_below.ensures
