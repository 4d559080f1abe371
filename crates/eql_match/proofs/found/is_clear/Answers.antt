use Rattle.std.proofs.Common.{ap, ◌∙◌}
use Rattle.std.specs.Prelude.{not}
use Rattle.eql_match.proofs.Clear.{first_none}
use Rattle.eql_match.proofs.found.is_clear.Goals as goal

pub returns : goal.returns
returns c = λ yes. first_none c.args.row.now c.first.result c.first.ensures (c.is_none.ensures ∙ ap not yes)
