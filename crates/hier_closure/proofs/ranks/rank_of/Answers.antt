use Rattle.std.proofs.Common.{◌<◌, ◌+◌, sym, ap, ◌∙◌, length, arith}
use Rattle.hier_closure.proofs.Heights.{rank_more, rank_same, rank_low, rank_whole}
use Rattle.hier_closure.proofs.ranks.rank_of.Goals.{then-is_above, else-is_above}
use Rattle.hier_closure.proofs.ranks.rank_of.Goals as goal

pub overflow_add-rank : goal.overflow_add-rank
overflow_add-rank c =
    let low = rank_low c.args.config.now.links (length c.args.config.now.levels) c.args.level c.loop-lower.lower in
    omega (arith, low, c.loop-lower.invariant)

pub loop-lower-preserved : goal.loop-lower-preserved
loop-lower-preserved c =
    let within : c.loop-lower.lower < length c.args.config.now.levels = omega arith in
    elim c.if-is_above.branch [
      | then-is_above w ↦ w.rank-is ∙ ap (λ n. n + 1) c.loop-lower.invariant
          ∙ sym (rank_more c.args.config.now.links (length c.args.config.now.levels) c.args.level c.loop-lower.lower within (sym c.is_above.ensures ∙ w.if-is_above.true))
      | else-is_above w ↦ w.rank-is ∙ c.loop-lower.invariant
          ∙ sym (rank_same c.args.config.now.links (length c.args.config.now.levels) c.args.level c.loop-lower.lower within (sym c.is_above.ensures ∙ w.if-is_above.false))
    ]

pub returns : goal.returns
returns c =
    c.loop-lower.invariant
    ∙ rank_whole c.args.config.now.links (length c.args.config.now.levels) c.args.level c.loop-lower.lower (omega arith)
