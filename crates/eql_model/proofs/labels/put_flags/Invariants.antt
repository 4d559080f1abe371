use Rattle.std.proofs.Common.{◌≡◌, ◌++◌, take}
use Rattle.eql_model.specs.Inner.Labels.{matched_row}
use Rattle.eql_model.proofs.labels.put_flags.Given as goal

-- the flags of the items so far, by the same pattern
abbrev pub invariant-loop-item : goal.invariant-loop-item
invariant-loop-item l =
    (l.flags ≡ l.fn.flags ++ matched_row l.attribute (take l.item-index l.items) l.fn.matching)
    × (l.matching ≡ l.fn.matching)
