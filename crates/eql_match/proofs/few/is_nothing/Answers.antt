use Rattle.std.proofs.Common.{ap, ◌∙◌}
use Rattle.std.specs.Prelude.{not}
use Rattle.eql_match.specs.Inner.Found.{tuples_in}
use Rattle.eql_match.proofs.FewTuples.{no_items}
use Rattle.eql_match.proofs.few.is_nothing.Goals as goal

pub returns-in-Items : goal.returns-in-Items
returns-in-Items c = λ yes.
    ap tuples_in c.in-Items.is ∙ no_items c.in-Items.row c.first.result c.first.ensures (c.is_none.ensures ∙ ap not yes)
