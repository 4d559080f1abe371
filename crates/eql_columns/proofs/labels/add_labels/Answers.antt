use Rattle.std.proofs.Common.{arith}
use Rattle.eql_columns.proofs.Added.{adds_all, adds_next, adds_none}
use Rattle.eql_columns.proofs.labels.add_labels.Goals as goal

pub loop-label-init : goal.loop-label-init
loop-label-init c = record {
  long = c.requires.long;
  added = adds_none c.args.indexed.now.bundle c.args.place c.args.row.now;
}

pub loop-label-preserved : goal.loop-label-preserved
loop-label-preserved c = record {
  long = c.add_label.ensures.long;
  added =
      adds_next c.args.indexed.now.bundle c.args.place c.args.labels.now c.loop-label.label-index c.label-item.result
      c.as_str.result.now c.args.row.now c.loop-label.row c.add_label.new.row c.loop-label.invariant.added c.loop-label-test.true c.label-item.is
      c.as_str.ensures c.add_label.ensures.added;
}

pub returns-clause-added : goal.returns-clause-added
returns-clause-added c =
    adds_all c.args.indexed.now.bundle c.args.place c.args.labels.now c.loop-label.label-index c.args.row.now c.loop-label.row
    (omega (arith, c.loop-label-test.false)) c.loop-label.invariant.added
