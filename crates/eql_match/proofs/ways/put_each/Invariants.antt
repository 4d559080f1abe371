use Rattle.std.proofs.Common.{◌≡◌, false, drop}
use Rattle.eql_tuples.specs.Sets.{put_all, is_over}
use Rattle.eql_tuples.specs.Tuples.{pairs_with}
use Rattle.eql_match.specs.Inner.Ways.{joins, makes}
use Rattle.eql_match.proofs.ways.put_each.Given as goal

-- the pairs that are left make the whole
abbrev pub invariant-loop-other : goal.invariant-loop-other
invariant-loop-other l =
    (put_all l.gathered (pairs_with (joins l.way) (makes l.way) (drop l.other-index l.others) l.one)
    ≡ put_all l.fn.gathered (pairs_with (joins l.way) (makes l.way) l.others l.one))
    × (is_over l.gathered ≡ false)
