use Rattle.std.proofs.Common.{◌++◌, ◌∷◌, [], sym, ◌∙◌, arith}
use Rattle.std.proofs.lemmas.List.FromFn.{map-range_with_len_more}
use Rattle.level_items.specs.Levels.{ids_of}
use Rattle.eql_model.specs.Inner.Bits.{rows_place}
use Rattle.eql_model.proofs.positions.place_flags.Goals as goal

pub loop-at-preserved : goal.loop-at-preserved
loop-at-preserved c =
    c.in_ok-push.ensures.ok
    ∙ (λ i. c.loop-at.invariant i ++ c.has_place.ensures i ∷ [])
    ∙ sym (map-range_with_len_more (rows_place c.args.rows.now (ids_of c.args.lowers.now) c.args.place c.args.wanted) 0 c.loop-at.at
    c.loop-at.at (omega arith))
