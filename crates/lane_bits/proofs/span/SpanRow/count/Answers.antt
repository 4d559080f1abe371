use Rattle.std.proofs.Common.{count_by, ap, sym, ◌∙◌}
use Rattle.lane_bits.proofs.Spans.{count_span}
use Rattle.lane_bits.proofs.span.SpanRow.count.Goals as goal

pub returns : goal.returns
returns c =
    c.count.ensures ∙ sym (count_span c.self.inside.span.start c.self.inside.span.bits c.self.inside.len c.self.invariant)
    ∙ ap (count_by (λ b. b)) c.self.view_is
