use Rattle.std.proofs.Common.{◌≡◌, ◌&&◌, Bool, List, ℕ, length, ap, sym, ◌∙◌, arith}
use Rattle.std.specs.List.{list_any}
use lib.Lanes.{zip2}
use Rattle.lane_bits.specs.Inner.Span.{span_of}
use Rattle.lane_bits.proofs.Spans.{seen_long, span_whole}
use Rattle.lane_bits.proofs.span.SpanRow.meets.Goals as goal

long : (s : ℕ) (bs : List Bool) (n : ℕ) (row other : List Bool) → span_of s bs n ≡ row → length row ≡ length other → n ≡ length other
long s bs n row other seen same = sym (seen_long s bs n row seen) ∙ same

pub meet-requires : goal.meet-requires
meet-requires c =
    sym c.len.ensures ∙ c.if-len-self.true
    ∙ long c.self.inside.span.start c.self.inside.span.bits c.self.inside.len c.args.self.now c.args.other.now c.self.view_is c.requires

pub meets_singly-requires : goal.meets_singly-requires
meets_singly-requires c =
    let count = long c.self.inside.span.start c.self.inside.span.bits c.self.inside.len c.args.self.now c.args.other.now c.self.view_is c.requires in
    let fits = c.self.invariant in
    omega arith

pub returns-then-len-self : goal.returns-then-len-self
returns-then-len-self c =
    let count = sym c.len.ensures ∙ c.if-len-self.true in
    let fits = c.self.invariant in
    c.meet.ensures
    ∙ ap (λ row. list_any (λ bit. bit) (zip2 (λ a b. a && b) row c.args.other.now))
    (sym (span_whole c.self.inside.span.start c.self.inside.span.bits c.self.inside.len (omega arith) count) ∙ c.self.view_is)

pub returns-else-len-self : goal.returns-else-len-self
returns-else-len-self c =
    let s = c.self.inside.span.start in
    let bs = c.self.inside.span.bits in
    c.meets_singly.ensures
    ∙ ap (λ n. list_any (λ bit. bit) (zip2 (λ a b. a && b) (span_of s bs n) c.args.other.now))
    (sym (long s bs c.self.inside.len c.args.self.now c.args.other.now c.self.view_is c.requires))
    ∙ ap (λ row. list_any (λ bit. bit) (zip2 (λ a b. a && b) row c.args.other.now)) c.self.view_is
