use Rattle.std.proofs.Common.{◌≡◌, ◌-◌, ◌∙◌, false, Bool, List, set, ℕ, ap, sym, subst, arith}
use Rattle.lane_bits.specs.Inner.Span.{span_bit, span_of}
use Rattle.lane_bits.proofs.Spans.{span_set, span_cleared, bit_before, bit_behind}
use Rattle.lane_bits.proofs.span.SpanRow.clear.Goals as goal

stays : (s : ℕ) (bs : List Bool) (n at : ℕ) (row : List Bool) → span_of s bs n ≡ row → span_bit s bs at ≡ false → row ≡ set row at false
stays s bs n at row seen clear = subst (λ (xs : List Bool). xs ≡ set xs at false) seen (span_cleared s bs n at clear)

pub returns-then-at-self : goal.returns-then-at-self
returns-then-at-self c =
    stays c.self.inside.span.start c.self.inside.span.bits c.self.inside.len c.args.at c.args.self.now c.self.view_is
    (bit_before c.self.inside.span.start c.self.inside.span.bits c.args.at c.if-at-self.true)

pub returns-then-place-len : goal.returns-then-place-len
returns-then-place-len c =
    let long = c.len.ensures in
    let past = c.if-place-len.true in
    let high = c.if-at-self.false in
    stays c.self.inside.span.start c.self.inside.span.bits c.self.inside.len c.args.at c.args.self.now c.self.view_is
    (bit_behind c.self.inside.span.start c.self.inside.span.bits c.args.at (omega arith))

pub returns : goal.returns
returns c =
    let s = c.self.inside.span.start in
    let bs = c.self.inside.span.bits in
    let n = c.self.inside.len in
    let long = c.len.ensures in
    let inside = c.if-place-len.false in
    let high = c.if-at-self.false in
    ap (λ xs. span_of s xs n) c.set.ensures
    ∙ span_set s bs n c.args.at (c.args.at - s) false c.self.invariant (omega arith) (omega arith)
    ∙ ap (λ xs. set xs c.args.at false) c.self.view_is
