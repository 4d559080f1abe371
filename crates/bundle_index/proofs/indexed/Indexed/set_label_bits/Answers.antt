use Rattle.std.proofs.Common.{◌∙◌}
use Rattle.level_items.specs.Levels.{items_at}
use Rattle.bundle_index.proofs.Numbers.{label_found}
use Rattle.bundle_index.proofs.Asked.{as_long, bits_are, none_labelled, seen_columns}
use Rattle.bundle_index.proofs.indexed.Indexed.set_label_bits.Goals as goal

pub eq_lanes-requires : goal.eq_lanes-requires
eq_lanes-requires c =
    as_long c.args.self.now.labels c.args.attribute c.column.result.now (items_at c.args.self.now.bundle.levels c.args.level) c.args.row.now
    c.column.ensures c.requires.unset

pub returns-in-Some : goal.returns-in-Some
returns-in-Some c =
    c.eq_lanes.ensures
    ∙ bits_are c.args.self.now.labels c.args.label.now c.in-Some.number c.args.attribute c.column.result.now
    (items_at c.args.self.now.bundle.levels c.args.level) c.label_number.ensures.rule
    (label_found c.args.self.now.labels c.args.label.now c.in-Some.number c.in-Some.ensures.number)
    c.column.ensures

pub returns-in-None : goal.returns-in-None
returns-in-None c =
    c.requires.unset
    ∙ none_labelled c.args.self.now c.self.inside.columns c.args.level c.args.attribute c.args.label.now
    (seen_columns _ c.args.self.now c.self.inside.columns c.self.view_is c.self.invariant.columns) c.requires.level c.requires.attribute
    c.in-None.ensures.number
