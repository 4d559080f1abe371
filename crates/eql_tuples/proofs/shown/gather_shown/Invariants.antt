use Rattle.std.proofs.Common.{◌≡◌, false, drop}
use Rattle.std.specs.List.{flat_map}
use Rattle.eql_tuples.specs.Sets.{put_all, is_over}
use Rattle.eql_tuples.specs.Shown.{shown}
use Rattle.eql_tuples.proofs.shown.gather_shown.Given as goal

-- the tuples that are left make the whole
abbrev pub invariant-loop-tuple : goal.invariant-loop-tuple
invariant-loop-tuple l =
    (put_all l.gathered (flat_map (shown l.marked) (drop l.tuple-index l.tuples))
    ≡ put_all l.fn.gathered (flat_map (shown l.marked) l.tuples))
    × (is_over l.gathered ≡ false)
