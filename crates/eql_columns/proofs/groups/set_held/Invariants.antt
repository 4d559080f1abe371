use Rattle.std.proofs.Common.{◌≡◌, length}
use Rattle.eql_columns.specs.Inner.Labels.{is_among, label_at}
use Rattle.eql_columns.proofs.Bits.{IsFilled}
use Rattle.eql_columns.proofs.groups.set_held.Given as goal

-- the group is the same, and the bits so far are its answers
abbrev pub invariant-loop-at : goal.invariant-loop-at
invariant-loop-at l = record {
  same : l.group ≡ l.fn.group;
  bits : IsFilled (λ k. is_among l.fn.group (label_at l.attribute l.items k)) l.row (length l.items) l.at;
}
