use Rattle.std.proofs.Common.{◌≡◌, map, take}
use Rattle.bundle_state.specs.Linked.{pair_of}
use Rattle.edit_undo.proofs.annot.given_links.Given as goal

abbrev pub invariant-loop-place : goal.invariant-loop-place
invariant-loop-place l = l.made ≡ map pair_of (take l.place l.links)
