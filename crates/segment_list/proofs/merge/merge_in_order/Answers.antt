use Rattle.std.proofs.Common.{reverse, ap, ◌∙◌}
use Rattle.std.proofs.lemmas.List.{reverse-reverse}
use Rattle.segment_list.specs.Merged.{rows_in_turn}
use Rattle.segment_list.proofs.merge.merge_in_order.Goals as goal

pub returns : goal.returns
returns c = record {
  ordered = c.sort.new.self;
  same = c.sort.ensures.same;
  rises = c.in_ok-sort.ensures.rises;
  rows = c.from_vec.ensures ∙ c.reverse.ensures.items ∙ ap reverse c.in_ok-rows.ensures ∙ reverse-reverse
      (rows_in_turn c.sort.new.self);
}
