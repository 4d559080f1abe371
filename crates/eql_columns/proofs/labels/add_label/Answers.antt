use Rattle.std.proofs.Common.{Ok, length, refl, sym, ap, ◌∙◌}
use Rattle.std.specs.Prelude.{replicate, false}
use Rattle.std.proofs.lemmas.List.{length-map}
use Rattle.bundle_index.proofs.Asked.{bits_are, no_bits}
use Rattle.bundle_index.proofs.Numbers.{label_found}
use Rattle.level_items.specs.Levels.{items_at}
use Rattle.eql_columns.proofs.Added.{adds_found, adds_missing, still_long}
use Rattle.eql_columns.proofs.Tests.{column_long, label_exit}
use Rattle.eql_columns.proofs.labels.add_label.Goals as goal

pub eq_lanes-requires : goal.eq_lanes-requires
eq_lanes-requires c =
    column_long c.args.indexed.now.labels c.column-column.result.now c.args.place.attribute
    (items_at c.args.indexed.now.bundle.levels c.args.place.level) c.column-column.ensures
    ∙ sym c.requires.long.first

pub or_into-requires : goal.or_into-requires
or_into-requires c =
    c.requires.long.second
    ∙ sym (ap length c.eq_lanes.ensures ∙ length-map c.column-column.result.now _
    ∙ column_long c.args.indexed.now.labels c.column-column.result.now c.args.place.attribute
    (items_at c.args.indexed.now.bundle.levels c.args.place.level) c.column-column.ensures)

pub returns-in_default-clause-added : goal.returns-in_default-clause-added
returns-in_default-clause-added c =
    adds_missing c.args.indexed.now.bundle c.args.place c.args.label.now c.args.row.now
    (label_exit c.args.indexed.now.bundle c.args.place c.args.label.now
    (Ok (replicate (length (items_at c.args.indexed.now.bundle.levels c.args.place.level)) false))
    (ap (λ n. replicate n false) (sym (column_long c.args.indexed.now.labels c.column-column.result.now c.args.place.attribute
    (items_at c.args.indexed.now.bundle.levels c.args.place.level) c.column-column.ensures))
    ∙ no_bits c.args.indexed.now.labels c.args.label.now c.args.place.attribute c.column-column.result.now
    (items_at c.args.indexed.now.bundle.levels c.args.place.level) c.in_default.ensures.number c.column-column.ensures))

pub returns-clause-long : goal.returns-clause-long
returns-clause-long c =
    still_long c.args.indexed.now.bundle c.args.place.level c.args.spare.now c.args.row.now c.eq_lanes.new.out c.or_into.new.into c.requires.long
    (ap length c.eq_lanes.ensures ∙ length-map c.column-column.result.now _
    ∙ column_long c.args.indexed.now.labels c.column-column.result.now c.args.place.attribute
    (items_at c.args.indexed.now.bundle.levels c.args.place.level) c.column-column.ensures
    ∙ sym c.requires.long.first)
    c.or_into.ensures

pub returns-clause-added : goal.returns-clause-added
returns-clause-added c =
    adds_found c.args.indexed.now.bundle c.args.place c.args.label.now c.eq_lanes.new.out c.args.row.now c.or_into.new.into
    (label_exit c.args.indexed.now.bundle c.args.place c.args.label.now (Ok c.eq_lanes.new.out)
    (c.eq_lanes.ensures
    ∙ bits_are c.args.indexed.now.labels c.args.label.now c.in-Some.number c.args.place.attribute c.column-column.result.now
    (items_at c.args.indexed.now.bundle.levels c.args.place.level) c.label_number.ensures.rule
    (label_found c.args.indexed.now.labels c.args.label.now c.in-Some.number c.in-Some.ensures.number) c.column-column.ensures))
    c.or_into.ensures
