use Rattle.std.proofs.Common.{length, ap, sym, ◌∙◌}
use Rattle.lane_bits.proofs.Spans.{length-span}
use Rattle.lane_bits.proofs.span.SpanRow.len.Goals as goal

pub returns : goal.returns
returns c = sym (length-span c.self.inside.span.start c.self.inside.span.bits c.self.inside.len) ∙ ap length c.self.view_is
