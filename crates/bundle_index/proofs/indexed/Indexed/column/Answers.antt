use Rattle.std.proofs.Common.{[], Some, ap, sym, ◌∙◌, arith}
use Rattle.std.proofs.lemmas.List.{get_or_past}
use Rattle.std.proofs.lemmas.Option.{get_or_from_slice_get}
use Rattle.bundle_index.proofs.Asked.{seen_columns, column_is}
use Rattle.bundle_index.proofs.indexed.Indexed.column.Goals as goal

pub returns-then-attribute-len : goal.returns-then-attribute-len
returns-then-attribute-len c =
    column_is c.args.self.now c.self.inside.columns c.args.level c.args.attribute c.as_ref.result.now c.as_slice.result.now
    (seen_columns _ c.args.self.now c.self.inside.columns c.self.view_is c.self.invariant.columns) c.requires.attribute (c.get.ensures ∙ ap Some (sym c.as_ref.ensures))
    (c.as_slice.ensures ∙ sym (get_or_from_slice_get c.as_ref.result.now.labels c.args.attribute
    c.get-then-attribute-len.result.now [] c.get-then-attribute-len.ensures))

pub returns-else-attribute-len : goal.returns-else-attribute-len
returns-else-attribute-len c =
    column_is c.args.self.now c.self.inside.columns c.args.level c.args.attribute c.as_ref.result.now []
    (seen_columns _ c.args.self.now c.self.inside.columns c.self.view_is c.self.invariant.columns) c.requires.attribute (c.get.ensures ∙ ap Some (sym c.as_ref.ensures))
    (sym (get_or_past c.as_ref.result.now.labels c.args.attribute [] (omega arith)))
