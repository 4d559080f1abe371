use Rattle.std.proofs.Common.{◌≡◌, ◌<◌, ◌≤◌, ◌+◌, ◌-◌, true, Bool, List, length, slice_get, Some, ℕ, ap, sym, subst, ◌∙◌, arith}
use Rattle.std.proofs.lemmas.Option.{slice_get_within}
use Rattle.lane_bits.specs.Inner.Row.{NoneWhere}
use Rattle.lane_bits.proofs.Spans.{seen_long, none_span, set_span}
use Rattle.lane_bits.proofs.span.SpanRow.first.Goals as goal

pub overflow_add-result : goal.overflow_add-result
overflow_add-result c =
    let within = slice_get_within c.self.inside.span.bits c.in-Some.at true c.in-Some.ensures.0 in
    let fits = c.self.invariant in
    let all = c.len-count.ensures in
    let long = seen_long c.self.inside.span.start c.self.inside.span.bits c.self.inside.len c.args.self.now c.self.view_is in
    let range = c.len-count.type_inv in
    omega arith

pub returns-in-Some : goal.returns-in-Some
returns-in-Some c =
    let s = c.self.inside.span.start in
    let bs = c.self.inside.span.bits in
    let n = c.self.inside.len in (
      ap (λ xs. slice_get xs (s + c.in-Some.at)) (sym c.self.view_is) ∙ set_span s bs n c.in-Some.at c.self.invariant c.in-Some.ensures.0,
      subst (λ (xs : List Bool). NoneWhere xs (λ i. i < s + c.in-Some.at)) c.self.view_is
          (none_span s bs n (λ i. i < s + c.in-Some.at) (λ i. i < c.in-Some.at) (λ i from low. omega arith) c.in-Some.ensures.1),
    )

pub returns-in-None : goal.returns-in-None
returns-in-None c =
    subst (λ (xs : List Bool). NoneWhere xs (λ i. Unit {0})) c.self.view_is
    (none_span c.self.inside.span.start c.self.inside.span.bits c.self.inside.len (λ i. Unit {0}) (λ i. Unit {0}) (λ i from low. low) c.in-None.ensures)
