use Rattle.std.proofs.Common.{◌≡◌, ◌||◌, ◌+◌, ◌-◌, ◌<◌, ◌≤◌, false, Bool, List, ℕ, length, get_or, ap, sym, subst, ◌∙◌, arith}
use Rattle.std.proofs.lemmas.Simd.{length-zip2}
use Rattle.std.proofs.lemmas.List.{get_or_past}
use lib.Lanes.{zip2}
use Rattle.lane_bits.specs.Inner.Span.{span_of}
use Rattle.lane_bits.proofs.Spans.{length-span, seen_long, span_at, bit_clear, or_nothing, span_joined}
use Rattle.lane_bits.proofs.span.SpanRow.join.Goals as goal

pub overflow_add-end : goal.overflow_add-end
overflow_add-end c =
    let long = seen_long c.other.inside.span.start c.other.inside.span.bits c.other.inside.len c.args.other.now c.other.view_is in
    let fits = c.other.invariant in
    let all = c.len-count.ensures in
    let range = c.len-count.type_inv in
    let count = c.len.ensures in
    omega arith

pub returns-then-start-end : goal.returns-then-start-end
returns-then-start-end c =
    let s = c.other.inside.span.start in
    let bs = c.other.inside.span.bits in
    let n = c.other.inside.len in
    let long = seen_long s bs n c.args.other.now c.other.view_is in
    let count = c.len.ensures in
    let same = c.if-start-end.true in
    or_nothing c.args.self.now c.args.other.now c.requires (λ i within.
    ap (λ xs. get_or xs i false) (sym c.other.view_is) ∙ span_at s bs n i (omega arith)
    ∙ bit_clear s bs i (λ k. get_or_past bs k false (omega arith)))

pub widen-requires-clause-inside : goal.widen-requires-clause-inside
widen-requires-clause-inside c =
    let long = seen_long c.other.inside.span.start c.other.inside.span.bits c.other.inside.len c.args.other.now c.other.view_is in
    let own = seen_long c.self.inside.span.start c.self.inside.span.bits c.self.inside.len c.args.self.now c.self.view_is in
    let same = c.requires in
    let fits = c.other.invariant in
    let count = c.len.ensures in
    omega arith

pub invariant_of-self-2 : goal.invariant_of-self-2
invariant_of-self-2 c =
    let fits = c.widen.ensures.fits in
    let bs = c.widen.new.span.bits in
    let part = length-span (c.other.inside.span.start - c.widen.new.span.start) c.other.inside.span.bits (length bs) in
    let long = ap length c.add_from.ensures ∙ length-zip2 (λ a b. a || b) bs _ (sym part) in
    omega arith

pub returns : goal.returns
returns c =
    let long = seen_long c.other.inside.span.start c.other.inside.span.bits c.other.inside.len c.args.other.now c.other.view_is in
    let own = seen_long c.self.inside.span.start c.self.inside.span.bits c.self.inside.len c.args.self.now c.self.view_is in
    let room = c.in_ok-widen.ensures.room in
    let first = room.0 in
    let last = room.1 in
    let count = c.len.ensures in
    span_joined c.widen.new.span.start c.widen.new.span.bits c.add_from.new.into c.other.inside.span.start c.other.inside.span.bits
    c.self.inside.len c.widen.ensures.fits first (omega arith) c.add_from.ensures
    ∙ ap (λ row. zip2 (λ a b. a || b) row (span_of c.other.inside.span.start c.other.inside.span.bits c.self.inside.len))
    (c.in_ok-widen.ensures.same ∙ c.self.view_is)
    ∙ ap (λ n. zip2 (λ a b. a || b) c.args.self.now (span_of c.other.inside.span.start c.other.inside.span.bits n))
    (sym own ∙ c.requires ∙ long)
    ∙ ap (zip2 (λ a b. a || b) c.args.self.now) c.other.view_is
