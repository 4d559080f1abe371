use Rattle.std.proofs.Common.{ap, sym, subst, ◌∙◌, map, List}
use Rattle.level_items.specs.declared.items.Item.{Item}
use Rattle.bundle_state.specs.Bundle.{BundleParts}
use Rattle.level_items.specs.Levels.{label_of, items_at}
use Rattle.bundle_index.specs.Inner.Numbered.{IsColumnOf}
use Rattle.eql_columns.proofs.patterns.pattern_row.Goals as goal

pub matched_bits-requires : goal.matched_bits-requires
matched_bits-requires c = record {
  numbers = subst (λ (items : List Item). IsColumnOf c.args.indexed.now.labels c.column-column.result.now
      (map (label_of c.args.place.attribute) items))
      (sym (c.items_at-items.ensures ∙ ap (λ (b : BundleParts). items_at b.levels c.args.place.level) c.bundle.ensures))
      c.column-column.ensures;
}
