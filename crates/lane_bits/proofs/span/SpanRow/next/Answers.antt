use Rattle.std.proofs.Common.{◌≡◌, ◌<◌, ◌≤◌, ◌+◌, ◌-◌, true, Bool, List, length, slice_get, Some, ℕ, ap, sym, subst, ◌∙◌, arith}
use Rattle.std.proofs.lemmas.Option.{slice_get_within}
use Rattle.lane_bits.specs.Inner.Row.{NoneWhere}
use Rattle.lane_bits.proofs.Spans.{seen_long, none_span, set_span}
use Rattle.lane_bits.proofs.span.SpanRow.next.Goals as goal

pub overflow_add-result : goal.overflow_add-result
overflow_add-result c =
    let within = slice_get_within c.self.inside.span.bits c.in-Some.at true c.in-Some.ensures.1 in
    let fits = c.self.invariant in
    let all = c.len-count.ensures in
    let long = seen_long c.self.inside.span.start c.self.inside.span.bits c.self.inside.len c.args.self.now c.self.view_is in
    let range = c.len-count.type_inv in
    omega arith

pub returns-in-Some : goal.returns-in-Some
returns-in-Some c =
    let s = c.self.inside.span.start in
    let bs = c.self.inside.span.bits in
    let n = c.self.inside.len in
    let from = c.saturating_sub.ensures in
    let order = c.in-Some.ensures.0 in (
      omega arith,
      ap (λ xs. slice_get xs (s + c.in-Some.at)) (sym c.self.view_is) ∙ set_span s bs n c.in-Some.at c.self.invariant c.in-Some.ensures.1,
      subst (λ (xs : List Bool). NoneWhere xs (λ i. (c.args.from ≤ i) × (i < s + c.in-Some.at))) c.self.view_is
          (none_span s bs n (λ i. (c.args.from ≤ i) × (i < s + c.in-Some.at)) (λ i. (c.saturating_sub.result ≤ i) × (i < c.in-Some.at))
          (λ i high between. let low = between.0 in let below = between.1 in (omega arith, omega arith)) c.in-Some.ensures.2),
    )

pub returns-in-None : goal.returns-in-None
returns-in-None c =
    let from = c.saturating_sub.ensures in
    subst (λ (xs : List Bool). NoneWhere xs (λ i. c.args.from ≤ i)) c.self.view_is
    (none_span c.self.inside.span.start c.self.inside.span.bits c.self.inside.len (λ i. c.args.from ≤ i) (λ i. c.saturating_sub.result ≤ i)
    (λ i high low. omega arith) c.in-None.ensures)
