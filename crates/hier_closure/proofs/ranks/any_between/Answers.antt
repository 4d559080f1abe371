use Rattle.std.proofs.Common.{sym, ◌∙◌, length, arith}
use Rattle.hier_closure.proofs.Tables.{some_between, none_more, none_at_all}
use Rattle.hier_closure.proofs.ranks.any_between.Goals as goal

pub returns-then-is_between : goal.returns-then-is_between
returns-then-is_between c =
    sym (some_between c.args.config.now.links (length c.args.config.now.levels) c.args.upper c.args.lower c.loop-level.level (omega arith)
    (sym c.is_between.ensures ∙ c.if-is_between.true))

pub loop-level-preserved : goal.loop-level-preserved
loop-level-preserved c =
    none_more c.args.config.now.links (length c.args.config.now.levels) c.args.upper c.args.lower c.loop-level.level (omega arith)
    c.loop-level.invariant (sym c.is_between.ensures ∙ c.if-is_between.false)

pub returns : goal.returns
returns c =
    sym (none_at_all c.args.config.now.links (length c.args.config.now.levels) c.args.upper c.args.lower c.loop-level.level (omega arith)
    c.loop-level.invariant)
