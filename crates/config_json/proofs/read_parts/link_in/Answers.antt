use Rattle.std.proofs.Common.{refl}
use Rattle.config_json.specs.Read.{link_in}
use Rattle.config_json.proofs.Stops.{stops_at}
use Rattle.config_json.proofs.read_parts.link_in.Goals as goal

pub returns-in_err-lower : goal.returns-in_err-lower
unfolding link_in
returns-in_err-lower c =
    rw (c.in_ok-object_in.ensures, c.in_ok-kind.ensures, c.in_ok-upper.ensures)
    (stops_at c.from_residual-in_err-lower.result _ _ _ c.from_residual-in_err-lower.ensures.1 c.in_err-lower.ensures)

pub returns : goal.returns
unfolding link_in
returns c = rw (c.in_ok-object_in.ensures, c.in_ok-kind.ensures, c.in_ok-upper.ensures, c.in_ok-lower.ensures) refl
