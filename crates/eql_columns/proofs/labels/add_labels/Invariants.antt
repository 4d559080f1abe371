use Rattle.std.proofs.Common.{take}
use Rattle.eql_columns.specs.Inner.Labels.{AddsLabels, AreLong}
use Rattle.eql_columns.proofs.labels.add_labels.Given as goal

-- the labels so far were added, and the rows are as long as before
abbrev pub invariant-loop-label : goal.invariant-loop-label
invariant-loop-label l = record {
  long : AreLong l.indexed.bundle l.place.level l.spare l.row;
  added : AddsLabels l.indexed.bundle l.place (take l.label-index l.labels) l.fn.row l.row;
}
