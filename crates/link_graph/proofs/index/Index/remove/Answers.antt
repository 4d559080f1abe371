use Rattle.std.proofs.Common.{sym, ◌∙◌}
use Rattle.link_graph.proofs.Steps.{gone_down, gone_up, gone_pair}
use Rattle.link_graph.proofs.index.Index.remove.Goals as goal

pub returns : goal.returns
returns c links h = record {
  down = λ id. rw (h.down id) at (c.remove-2.ensures id) ∙ gone_down c.args.from c.args.to links id;
  up = λ id. rw (h.up id) at (c.remove-3.ensures id) ∙ gone_up c.args.from c.args.to links id;
  pairs = λ a b. rw (h.pairs a b) at (c.remove.ensures a b) ∙ sym (gone_pair c.args.from c.args.to links a b);
}
