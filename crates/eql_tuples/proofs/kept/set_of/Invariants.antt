use Rattle.std.proofs.Common.{◌≡◌, drop}
use Rattle.eql_tuples.specs.Sets.{put_all, each_once}
use Rattle.eql_tuples.proofs.kept.set_of.Given as goal

-- the tuples that are left make the whole
abbrev pub invariant-loop-tuple : goal.invariant-loop-tuple
invariant-loop-tuple l = put_all l.set.keys (drop l.tuple-index l.list) ≡ each_once l.list
