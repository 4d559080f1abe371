use Rattle.std.proofs.Common.{arith}
use Rattle.eql_model.specs.Labels.{wanted_labels}
use Rattle.eql_columns.proofs.Added.{added_to_none, adds_none, adds_written, both_long, only_written, wanted_all}
use Rattle.eql_columns.proofs.labels.set_label_bits.Goals as goal

pub returns-then-written-eq1 : goal.returns-then-written-eq1
returns-then-written-eq1 c =
    only_written c.args.config.now c.args.indexed.now.bundle c.args.place c.args.written.now c.index-written-0.result
    c.set_only_written.new.row c.set_only_written.result c.if-written-eq1.true
    c.index-written-0.is c.set_only_written.ensures

pub loop-one-init : goal.loop-one-init
loop-one-init c = record {
  long = both_long c.args.indexed.now.bundle c.args.place.level c.len.result c.in_ok-spare.spare c.args.row.now c.in_ok-spare.ensures c.len.ensures
      c.requires.unset;
  added = adds_none c.args.indexed.now.bundle c.args.place c.args.row.now;
}

pub loop-one-preserved : goal.loop-one-preserved
loop-one-preserved c = record {
  long = c.add_written.ensures.long;
  added =
      adds_written c.args.config.now c.args.indexed.now.bundle c.args.place c.args.written.now c.loop-one.one-index c.one-item.result
      c.args.row.now c.loop-one.row c.add_written.new.row c.loop-one.invariant.added c.loop-one-test.true c.one-item.is
      c.add_written.ensures.added;
}

pub returns : goal.returns
returns c =
    added_to_none c.args.indexed.now.bundle c.args.place (wanted_labels c.args.config.now c.args.place c.args.written.now) c.args.row.now
    c.loop-one.row c.requires.unset
    (wanted_all c.args.config.now c.args.indexed.now.bundle c.args.place c.args.written.now c.loop-one.one-index c.args.row.now
    c.loop-one.row (omega (arith, c.loop-one-test.false)) c.loop-one.invariant.added)
