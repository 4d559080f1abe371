use Rattle.std.proofs.Common.{◌||◌, length, ap, sym, ◌∙◌}
use lib.Lanes.{zip2}
use Rattle.lane_bits.proofs.Spans.{span_whole}
use Rattle.lane_bits.proofs.span.add_from.Goals as goal

pub returns-then-len : goal.returns-then-len
returns-then-len c =
    c.or_into.ensures
    ∙ ap (zip2 (λ a b. a || b) c.args.into.now)
    (sym (span_whole c.args.by c.args.bits.now (length c.args.into.now) c.if-by-eq0.true
    (sym c.len.ensures ∙ c.if-len.true ∙ c.len-then-by-eq0.ensures)))
