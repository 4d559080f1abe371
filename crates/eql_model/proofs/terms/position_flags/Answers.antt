use Rattle.eql_model.proofs.Between.{position_exit, wide_exit}
use Rattle.eql_model.proofs.terms.position_flags.Goals as goal

pub place_flags-requires-clause-wide : goal.place_flags-requires-clause-wide
place_flags-requires-clause-wide c =
    wide_exit c.args.bundle.now c.args.levels.0 c.args.levels.1 c.in_ok-rows.rows c.items_at.result.now c.in_ok-rows.ensures
    c.items_at.ensures

pub returns : goal.returns
returns c =
    position_exit c.args.bundle.now c.args.levels.0 c.args.levels.1 c.in_ok-rows.rows c.items_at.result.now c.args.place c.args.wanted
    c.place_flags.result c.in_ok-rows.ensures c.items_at.ensures c.place_flags.ensures
