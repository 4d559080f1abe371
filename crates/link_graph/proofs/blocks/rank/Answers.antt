use Rattle.std.proofs.Common.{arith}
use Rattle.link_graph.specs.Inner.Blocks.{joined}
use Rattle.link_graph.specs.Inner.Ends.{has_end}
use Rattle.link_graph.proofs.Counted.{ranked_last}
use Rattle.link_graph.proofs.blocks.rank.Goals as goal

pub returns-then-last : goal.returns-then-last
returns-then-last c =
    ranked_last (has_end c.args.end c.args.id.0) (joined c.args.blocks.now) c.args.place 18446744073709551615 (c.requires.last c.if-last.true)
    (let few = c.requires.few in omega (arith, few))
