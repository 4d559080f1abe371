use Rattle.std.proofs.Common.{◌∙◌}
use Rattle.link_graph.proofs.Steps.{forgot_up, forgot_down, pairs_gone}
use Rattle.link_graph.proofs.index.Index.remove_item.Goals as goal

pub returns : goal.returns
returns c links h = record {
  down = λ key. forgot_down c.args.id links key c.as_slice-4.result.now _ _ _
      (c.as_slice-4.ensures ∙ (c.take-parents.ensures.taken ∙ h.up c.args.id.0)) (h.down key) (c.take-children.ensures.rest key) (c.forget-2.ensures key);
  up = λ key. forgot_up c.args.id links key c.as_slice-3.result.now _ _ _
      (c.as_slice-3.ensures ∙ (c.take-children.ensures.taken ∙ h.down c.args.id.0)) (h.up key) (c.take-parents.ensures.rest key) (c.forget.ensures key);
  pairs = λ a b. pairs_gone c.args.id links a b c.as_slice.result.now c.as_slice-2.result.now _ _ _
      (c.as_slice.ensures ∙ (c.take-children.ensures.taken ∙ h.down c.args.id.0)) (c.as_slice-2.ensures ∙ (c.take-parents.ensures.taken ∙ h.up c.args.id.0))
      (h.pairs a b) (c.forget_pairs.ensures a b) (c.forget_pairs-2.ensures a b);
}
