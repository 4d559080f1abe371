use Rattle.std.proofs.Common.{◌≡◌, false, drop}
use Rattle.std.specs.List.{flat_map}
use Rattle.eql_tuples.specs.Sets.{put_all, is_over}
use Rattle.eql_tuples.specs.Tuples.{pairs_with}
use Rattle.eql_model.specs.Inner.Joins.{goes_with, makes}
use Rattle.eql_model.proofs.joins.gather_all.Given as goal

-- the tuples that are left make the whole
abbrev pub invariant-loop-left : goal.invariant-loop-left
invariant-loop-left l =
    (put_all l.gathered (flat_map (pairs_with (goes_with l.join) (makes l.join) l.rights) (drop l.left-index l.lefts))
    ≡ put_all l.fn.gathered (flat_map (pairs_with (goes_with l.join) (makes l.join) l.rights) l.lefts))
    × (is_over l.gathered ≡ false)
