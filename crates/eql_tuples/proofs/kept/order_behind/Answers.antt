use Rattle.std.proofs.Common.{◌∙◌, sym}
use Rattle.std.specs.declared.cmp.Ordering.TheVariants.{Greater}
use Rattle.eql_tuples.proofs.Rising.{order_of_last}
use Rattle.eql_tuples.proofs.kept.order_behind.Goals as goal

pub returns-in-Some : goal.returns-in-Some
returns-in-Some c =
    c.cmp.ensures ∙ order_of_last c.args.tuple Greater c.args.list.now c.in-Some.last.now (sym c.in-Some.ensures.value)
