use Rattle.lane_bits.proofs.Spans.{span_new}
use Rattle.lane_bits.proofs.span.SpanRow.new.Goals as goal

pub returns : goal.returns
returns c = span_new 0 c.in_ok-bits.bits c.held_at_first.result c.args.len c.in_ok-bits.ensures
