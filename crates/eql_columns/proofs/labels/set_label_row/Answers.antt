use Rattle.std.proofs.Common.{Ok, false, refl, sym, ap, ◌∙◌}
use Rattle.std.specs.Prelude.{replicate}
use Rattle.bundle_index.proofs.Asked.{bits_are, no_bits}
use Rattle.bundle_index.proofs.Numbers.{label_found}
use Rattle.level_items.specs.Levels.{items_at}
use Rattle.eql_columns.proofs.Bits.{unset_wide}
use Rattle.eql_columns.proofs.Tests.{column_long, label_exit}
use Rattle.eql_columns.proofs.labels.set_label_row.Goals as goal

pub eq_lanes-requires : goal.eq_lanes-requires
eq_lanes-requires c =
    column_long c.args.indexed.now.labels c.column-column.result.now c.args.place.attribute
    (items_at c.args.indexed.now.bundle.levels c.args.place.level) c.column-column.ensures
    ∙ sym (unset_wide _ _ c.args.row.now c.requires.unset refl)

pub returns-in_default : goal.returns-in_default
returns-in_default c =
    label_exit c.args.indexed.now.bundle c.args.place c.args.label.now (Ok c.args.row.now)
    (c.requires.unset
    ∙ ap (λ n. replicate n false) (sym (column_long c.args.indexed.now.labels c.column-column.result.now c.args.place.attribute
    (items_at c.args.indexed.now.bundle.levels c.args.place.level) c.column-column.ensures))
    ∙ no_bits c.args.indexed.now.labels c.args.label.now c.args.place.attribute c.column-column.result.now
    (items_at c.args.indexed.now.bundle.levels c.args.place.level) c.in_default.ensures.number c.column-column.ensures)

pub returns : goal.returns
returns c =
    label_exit c.args.indexed.now.bundle c.args.place c.args.label.now (Ok c.eq_lanes.new.out)
    (c.eq_lanes.ensures
    ∙ bits_are c.args.indexed.now.labels c.args.label.now c.in-Some.number c.args.place.attribute c.column-column.result.now
    (items_at c.args.indexed.now.bundle.levels c.args.place.level) c.label_number.ensures.rule
    (label_found c.args.indexed.now.labels c.args.label.now c.in-Some.number c.in-Some.ensures.number) c.column-column.ensures)
