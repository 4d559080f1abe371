use Rattle.std.proofs.Common.{◌≡◌, false, drop}
use Rattle.std.specs.List.{flat_map}
use Rattle.eql_tuples.specs.Sets.{put_all, is_over}
use Rattle.eql_tuples.specs.Tuples.{pairs_with}
use Rattle.eql_match.specs.Inner.Ways.{joins, makes}
use Rattle.eql_match.proofs.ways.put_pairs.Given as goal

-- the tuples that are left make the whole
abbrev pub invariant-loop-one : goal.invariant-loop-one
invariant-loop-one l =
    (put_all l.gathered (flat_map (pairs_with (joins l.way) (makes l.way) l.others) (drop l.one-index l.ones))
    ≡ put_all l.fn.gathered (flat_map (pairs_with (joins l.way) (makes l.way) l.others) l.ones))
    × (is_over l.gathered ≡ false)
