use Rattle.std.proofs.Common.{◌≡◌, true, take}
use Rattle.std.specs.List.{list_all}
use Rattle.eql_match.specs.Inner.Shown.{is_bare}
use Rattle.eql_match.proofs.bundle.are_bare.Given as goal

-- the tuples so far have no mark
abbrev pub invariant-loop-tuple : goal.invariant-loop-tuple
invariant-loop-tuple l = list_all is_bare (take l.tuple-index l.tuples) ≡ true
