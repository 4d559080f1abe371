use Rattle.std.proofs.Common.{◌≡◌, [], drop}
use Rattle.bundle_state.specs.Bundle.{level_of_id}
use Rattle.bundle_state.specs.Linked.{put_links}
use Rattle.bundle_state.proofs.given_links.made_links.Given as goal

abbrev pub invariant-loop-place : goal.invariant-loop-place
invariant-loop-place l =
    put_links l.config.links (level_of_id l.levels) (drop l.place l.given) l.links
    ≡ put_links l.config.links (level_of_id l.levels) l.fn.given []
