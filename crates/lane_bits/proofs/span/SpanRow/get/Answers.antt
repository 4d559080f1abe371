use Rattle.std.proofs.Common.{◌≡◌, ◌<◌, Bool, List, length, slice_get, Some, ℕ, ap, sym, subst, ◌∙◌, arith}
use Rattle.std.proofs.lemmas.Option.{get_or_from_slice_get}
use Rattle.lane_bits.specs.Inner.Span.{span_bit, span_of}
use Rattle.lane_bits.proofs.Spans.{span_get, bit_before, bit_from, bit_behind}
use Rattle.lane_bits.proofs.span.SpanRow.get.Goals as goal

shown : (s : ℕ) (bs : List Bool) (n at : ℕ) (row : List Bool) → span_of s bs n ≡ row → at < length row →
    slice_get row at ≡ Some (span_bit s bs at)
shown s bs n at row seen within =
    ap (λ xs. slice_get xs at) (sym seen) ∙ span_get s bs n at (subst (λ (xs : List Bool). at < length xs) (sym seen) within)

pub returns-then-at-self : goal.returns-then-at-self
returns-then-at-self c =
    let s = c.self.inside.span.start in
    let bs = c.self.inside.span.bits in
    shown s bs c.self.inside.len c.args.at c.args.self.now c.self.view_is c.requires
    ∙ ap (λ b. Some b) (bit_before s bs c.args.at c.if-at-self.true)

pub returns-then-place-len : goal.returns-then-place-len
returns-then-place-len c =
    let s = c.self.inside.span.start in
    let bs = c.self.inside.span.bits in
    let long = c.len.ensures in
    let past = c.if-place-len.true in
    let high = c.if-at-self.false in
    shown s bs c.self.inside.len c.args.at c.args.self.now c.self.view_is c.requires
    ∙ ap (λ b. Some b) (bit_behind s bs c.args.at (omega arith))

pub returns : goal.returns
returns c =
    let s = c.self.inside.span.start in
    let bs = c.self.inside.span.bits in
    shown s bs c.self.inside.len c.args.at c.args.self.now c.self.view_is c.requires
    ∙ ap (λ b. Some b) (bit_from s bs c.args.at c.if-at-self.false ∙ get_or_from_slice_get bs _ c.get.result _ c.get.ensures)
