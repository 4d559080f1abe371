use Rattle.std.proofs.Common.{◌≡◌, ◌≤◌, ◌∙◌, sym, arith}
use Rattle.hier_closure.proofs.Tables.{rank_in, rank_is, made_start, made_all, made_none}
use Rattle.hier_closure.proofs.levels.rows_between.Goals as goal

pub loop-rank-init : goal.loop-rank-init
loop-rank-init c =
    (c.in_ok-table.ensures ∙ c.level_count.ensures, made_start c.args.bundle.now c.args.upper c.args.lower c.in_ok-table.table.items)

pub returns : goal.returns
returns c =
    let rank : c.rank_of-rank-end.result ≡ rank_in c.args.bundle.now c.args.upper =
    c.rank_of-rank-end.ensures ∙ rank_is c.args.config.now c.args.bundle.now c.args.upper c.requires.under.fits in
    let low : rank_in c.args.bundle.now c.args.upper ≤ c.loop-rank.rank = omega arith in
    made_all c.args.config.now c.args.bundle.now c.args.upper c.args.lower c.loop-rank.rank c.loop-rank.table.items c.requires.under low c.loop-rank.invariant.1

pub returns-then-not-any_between : goal.returns-then-not-any_between
returns-then-not-any_between c =
    made_none c.args.config.now c.args.bundle.now c.args.upper c.args.lower _ c.requires.under.fits (sym c.any_between.ensures ∙ c.if-not-any_between.true)
