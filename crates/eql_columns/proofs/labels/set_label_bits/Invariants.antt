use Rattle.std.proofs.Common.{take}
use Rattle.eql_model.specs.Labels.{wanted_labels}
use Rattle.eql_columns.specs.Inner.Labels.{AddsLabels, AreLong}
use Rattle.eql_columns.proofs.labels.set_label_bits.Given as goal

-- the labels that are wanted so far were added, and the rows are as long as before
abbrev pub invariant-loop-one : goal.invariant-loop-one
invariant-loop-one l = record {
  long : AreLong l.indexed.bundle l.place.level l.spare l.row;
  added : AddsLabels l.indexed.bundle l.place (wanted_labels l.config l.place (take l.one-index l.written)) l.fn.row l.row;
}
