use Rattle.std.proofs.Common.{◌≡◌, take}
use Rattle.hier_closure.proofs.relinked.are_same_links.Given as goal

-- the links so far are the same
abbrev pub invariant-loop-place : goal.invariant-loop-place
invariant-loop-place l = take l.place l.links ≡ take l.place l.others
