use Rattle.std.proofs.Common.{◌≡◌, false, drop}
use Rattle.eql_tuples.specs.Sets.{put_all, is_over}
use Rattle.eql_tuples.specs.Tuples.{pairs_with}
use Rattle.eql_model.specs.Inner.Joins.{goes_with, makes}
use Rattle.eql_model.proofs.joins.gather_with.Given as goal

-- the pairs that are left make the whole
abbrev pub invariant-loop-right : goal.invariant-loop-right
invariant-loop-right l =
    (put_all l.gathered (pairs_with (goes_with l.join) (makes l.join) (drop l.right-index l.rights) l.left)
    ≡ put_all l.fn.gathered (pairs_with (goes_with l.join) (makes l.join) l.rights l.left))
    × (is_over l.gathered ≡ false)
