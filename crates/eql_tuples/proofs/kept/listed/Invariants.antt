use Rattle.std.proofs.Common.{◌≡◌, map}
use Rattle.eql_tuples.proofs.kept.listed.Given as goal

-- the tuples so far
abbrev pub invariant-loop-tuple : goal.invariant-loop-tuple
invariant-loop-tuple l = l.list ≡ map (λ t. t.now) l.yielded
