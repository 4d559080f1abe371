use Rattle.std.proofs.Common.{◌≡◌, ◌+◌, ◌-◌, ◌<◌, true, length, set, ap, sym, ◌∙◌, arith}
use Rattle.lane_bits.specs.Inner.Span.{span_of}
use Rattle.lane_bits.proofs.Spans.{seen_long, span_set}
use Rattle.lane_bits.proofs.span.SpanRow.set.Goals as goal

pub overflow_add-at : goal.overflow_add-at
overflow_add-at c =
    let long = seen_long c.self.inside.span.start c.self.inside.span.bits c.self.inside.len c.args.self.now c.self.view_is in
    let here = c.requires in
    let range = c.self.ranges.1.0.1 in
    omega arith

pub widen-requires-clause-inside : goal.widen-requires-clause-inside
widen-requires-clause-inside c =
    let long = seen_long c.self.inside.span.start c.self.inside.span.bits c.self.inside.len c.args.self.now c.self.view_is in
    let here = c.requires in
    omega arith

pub returns : goal.returns
returns c =
    let room = c.in_ok-widen.ensures.room in
    let first = room.0 in
    let last = room.1 in
    ap (λ xs. span_of c.widen.new.span.start xs c.self.inside.len) c.set.ensures
    ∙ span_set c.widen.new.span.start c.widen.new.span.bits c.self.inside.len c.args.at (c.args.at - c.widen.new.span.start) true
    c.widen.ensures.fits (omega arith) (omega arith)
    ∙ ap (λ xs. set xs c.args.at true) (c.in_ok-widen.ensures.same ∙ c.self.view_is)
