use Rattle.std.proofs.Common.{◌||◌, false, length, replicate, ap, ◌∙◌}
use Rattle.std.proofs.lemmas.Simd.{length-replicate}
use lib.Lanes.{zip2}
use Rattle.lane_bits.specs.Inner.Span.{span_of}
use Rattle.lane_bits.proofs.Spans.{length-span, or_clear}
use Rattle.lane_bits.proofs.span.moved.Goals as goal

pub returns : goal.returns
returns c =
    c.add_from.ensures
    ∙ ap (λ row. zip2 (λ a b. a || b) row (span_of c.args.by c.args.bits.now (length row))) c.in_ok-row.ensures
    ∙ ap (λ n. zip2 (λ a b. a || b) (replicate c.args.len false) (span_of c.args.by c.args.bits.now n)) (length-replicate c.args.len false)
    ∙ or_clear c.args.len (span_of c.args.by c.args.bits.now c.args.len) (length-span c.args.by c.args.bits.now c.args.len)
