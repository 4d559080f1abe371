use Rattle.std.proofs.Common.{◌≡◌, ◌||◌, length, ap, sym, ◌∙◌, arith}
use lib.Lanes.{zip2}
use Rattle.lane_bits.specs.Inner.Span.{span_of}
use Rattle.lane_bits.proofs.Spans.{seen_long}
use Rattle.lane_bits.proofs.span.SpanRow.join_into.Goals as goal

pub add_from-requires : goal.add_from-requires
add_from-requires c =
    let long = seen_long c.self.inside.span.start c.self.inside.span.bits c.self.inside.len c.args.self.now c.self.view_is in
    let same = c.requires in
    let fits = c.self.invariant in
    omega arith

pub returns : goal.returns
returns c =
    let s = c.self.inside.span.start in
    let bs = c.self.inside.span.bits in
    let long = seen_long s bs c.self.inside.len c.args.self.now c.self.view_is in
    c.add_from.ensures
    ∙ ap (λ n. zip2 (λ a b. a || b) c.args.into.now (span_of s bs n)) (c.requires ∙ long)
    ∙ ap (zip2 (λ a b. a || b) c.args.into.now) c.self.view_is
