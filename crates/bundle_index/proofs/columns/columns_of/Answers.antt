use Rattle.bundle_index.proofs.Facts.{all_labelled, all_in_time, are_columns}
use Rattle.bundle_index.proofs.columns.columns_of.Goals as goal

pub label_columns-requires : goal.label_columns-requires
label_columns-requires c =
    all_labelled c.args.level.now c.as_slice-items.result.now c.label_count.result c.requires
    c.as_slice-items.ensures c.label_count.ensures

pub with_times-requires : goal.with_times-requires
with_times-requires c = all_in_time c.args.level.now c.as_slice-items.result.now c.requires c.as_slice-items.ensures

pub returns-clause-columns : goal.returns-clause-columns
returns-clause-columns c =
    are_columns c.label_columns.new.labels c.args.level.now c.as_slice-items.result.now c.label_count.result
    c.in_ok-made.made c.with_times.result c.requires c.as_slice-items.ensures c.label_count.ensures
    c.in_ok-made.ensures.columns c.with_times.ensures.labels c.with_times.ensures.starts c.with_times.ensures.ends
