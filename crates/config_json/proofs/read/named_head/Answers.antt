use Rattle.std.proofs.Common.{refl}
use Rattle.config_json.specs.Inner.Read.{named_head}
use Rattle.config_json.proofs.Stops.{stops, stops_at}
use Rattle.config_json.proofs.read.named_head.Goals as goal

pub returns-in_err-extension-clause-head : goal.returns-in_err-extension-clause-head
unfolding named_head
returns-in_err-extension-clause-head c =
    rw (c.in_ok-object_in.ensures, c.in_ok-name.ensures, c.in_ok-uuid.ensures)
    (stops_at c.from_residual-in_err-extension.result _ _ _ c.from_residual-in_err-extension.ensures.1 c.in_err-extension.ensures)

pub returns-in_err-tracks-clause-head : goal.returns-in_err-tracks-clause-head
unfolding named_head
returns-in_err-tracks-clause-head c =
    rw (c.in_ok-object_in.ensures, c.in_ok-name.ensures, c.in_ok-uuid.ensures, c.in_ok-extension.ensures)
    (stops c.from_residual-in_err-tracks.result _ _ _ c.from_residual-in_err-tracks.ensures.1 c.in_err-tracks.ensures.tracks)

pub returns-clause-head : goal.returns-clause-head
unfolding named_head
returns-clause-head c = rw (c.in_ok-object_in.ensures, c.in_ok-name.ensures, c.in_ok-uuid.ensures, c.in_ok-extension.ensures, c.in_ok-tracks.ensures.tracks) refl
