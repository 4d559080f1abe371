use Rattle.std.proofs.Common.{ap, false, ◌∙◌}
use Rattle.std.specs.Prelude.{replicate}
use Rattle.eql_match.proofs.found.either_way.Goals as goal

pub set_above_right-requires-clause-unset : goal.set_above_right-requires-clause-unset
set_above_right-requires-clause-unset c = c.in_ok-made.ensures ∙ ap (λ n. replicate n false) c.len.ensures
