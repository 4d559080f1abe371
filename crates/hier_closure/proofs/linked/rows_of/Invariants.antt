use Rattle.std.proofs.Common.{◌≡◌, take}
use Rattle.hier_closure.specs.Inner.Linked.{linked_of}
use Rattle.hier_closure.proofs.linked.rows_of.Given as goal

-- the links so far
abbrev pub invariant-loop-place : goal.invariant-loop-place
invariant-loop-place l = l.rows.items ≡ linked_of l.bundle l.upper l.lower (take l.place l.bundle.links)
