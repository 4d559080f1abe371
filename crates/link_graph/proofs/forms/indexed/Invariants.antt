use Rattle.std.proofs.Common.{◌≡◌, take}
use Rattle.link_graph.proofs.forms.indexed.Given as goal

-- the links so far are put in
abbrev pub invariant-loop-place : goal.invariant-loop-place
invariant-loop-place l = l.many ≡ take l.place l.links
