use Rattle.eql_columns.proofs.Added.{added_to_none, both_long}
use Rattle.eql_columns.proofs.labels.set_labels.Goals as goal

pub add_labels-requires-clause-long : goal.add_labels-requires-clause-long
add_labels-requires-clause-long c =
    both_long c.args.indexed.now.bundle c.args.place.level c.len.result c.in_ok-spare.spare c.args.row.now c.in_ok-spare.ensures c.len.ensures
    c.requires.unset

pub returns : goal.returns
returns c =
    added_to_none c.args.indexed.now.bundle c.args.place c.args.labels.now c.args.row.now c.add_labels.new.row c.requires.unset
    c.add_labels.ensures.added
