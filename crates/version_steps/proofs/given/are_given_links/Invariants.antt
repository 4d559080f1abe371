use Rattle.std.proofs.Common.{◌≡◌, map, take}
use Rattle.bundle_state.specs.Linked.{pair_of}
use Rattle.version_steps.proofs.given.are_given_links.Given as goal

-- the links so far are given
abbrev pub invariant-loop-place : goal.invariant-loop-place
invariant-loop-place l = take l.place l.given ≡ map pair_of (take l.place l.links)
