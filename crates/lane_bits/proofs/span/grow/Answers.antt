use Rattle.std.proofs.Common.{◌≡◌, ◌+◌, ◌-◌, ◌<◌, ◌≤◌, Bool, List, ℕ, length, ap, sym, ◌∙◌, arith}
use Rattle.lane_bits.specs.Inner.Span.{span_of}
use Rattle.lane_bits.proofs.Spans.{length-span, span_start, span_wider}
use Rattle.lane_bits.proofs.span.grow.Goals as goal

long : (s : ℕ) (bs : List Bool) (n : ℕ) (row : List Bool) → row ≡ span_of s bs n → length row ≡ n
long s bs n row made = ap length made ∙ length-span s bs n

pub returns-clause-fits : goal.returns-clause-fits
returns-clause-fits c =
    let count = long _ _ _ c.in_ok-bits.bits c.in_ok-bits.ensures in
    let low = c.stretch_with-low.ensures.low in
    let high = c.stretch_with-low.ensures.high in
    let within = c.stretch_with-low.ensures.within in
    omega arith

pub returns-clause-same : goal.returns-clause-same
returns-clause-same c =
    let low = c.stretch_with-low.ensures.low in
    let high = c.stretch_with-low.ensures.high in
    let count = c.len-count.ensures in
    span_wider c.start_for-start.result c.args.span.now.bits c.stretch_with-low.result.0 c.in_ok-bits.bits c.args.len
    (c.stretch_with-low.result.1 - c.stretch_with-low.result.0) low c.in_ok-bits.ensures (omega arith)
    ∙ span_start c.args.span.now.start c.start_for-start.result c.args.span.now.bits c.args.len
    (λ some. c.start_for-start.ensures.some (omega arith))

pub returns-clause-room : goal.returns-clause-room
returns-clause-room c =
    let count = long _ _ _ c.in_ok-bits.bits c.in_ok-bits.ensures in
    let low = c.stretch_with-low.ensures.low in
    let high = c.stretch_with-low.ensures.high in
    let first = c.stretch_with-low.ensures.first in
    let last = c.stretch_with-low.ensures.last in
    (omega arith, omega arith)
