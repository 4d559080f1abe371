use Rattle.std.proofs.Common.{ap, sym, subst, refl, ◌∙◌, length, map, List}
use Rattle.level_items.specs.declared.items.Item.{Item}
use Rattle.bundle_state.specs.Bundle.{BundleParts}
use Rattle.bundle_index.specs.Inner.Numbered.{IsColumnOf}
use Rattle.level_items.specs.Levels.{label_of, items_at}
use Rattle.eql_columns.proofs.Bits.{unset_wide}
use Rattle.eql_columns.proofs.Tests.{group_row}
use Rattle.eql_columns.proofs.labels.set_group.Goals as goal

pub set_held-requires-clause-numbers : goal.set_held-requires-clause-numbers
set_held-requires-clause-numbers c =
    subst (λ (items : List Item). IsColumnOf c.args.indexed.now.labels c.column-column.result.now
    (map (label_of c.args.place.attribute) items))
    (sym (c.items_at-items.ensures ∙ ap (λ (b : BundleParts). items_at b.levels c.args.place.level) c.bundle.ensures))
    c.column-column.ensures

pub set_held-requires-clause-long : goal.set_held-requires-clause-long
set_held-requires-clause-long c =
    unset_wide _ _ c.args.row.now c.requires.unset refl
    ∙ sym (ap length (c.items_at-items.ensures ∙ ap (λ (b : BundleParts). items_at b.levels c.args.place.level) c.bundle.ensures))

pub returns : goal.returns
returns c =
    group_row c.args.indexed.now.bundle c.args.place c.args.labels.now c.in_ok-group.group.now c.items_at-items.result.now c.set_held.new.row
    c.in_ok-group.ensures (c.items_at-items.ensures ∙ ap (λ (b : BundleParts). items_at b.levels c.args.place.level) c.bundle.ensures)
    c.set_held.ensures
