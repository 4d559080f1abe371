use Rattle.std.proofs.Common.{map, drop, ap, ◌∙◌}
use Rattle.std.proofs.lemmas.List.{map_push}
use Rattle.eql_resolve.specs.Inner.View.{term_in}
use Rattle.eql_resolve.proofs.Steps.{asked_step}
use Rattle.eql_resolve.proofs.terms.asked_terms.Goals as goal

pub loop-term-preserved : goal.loop-term-preserved
loop-term-preserved c =
    let pushed = ap (map term_in) c.in_ok-push-in-Ok.ensures.items ∙ map_push term_in c.loop-term.made.items c.in-Ok.asked in
    let rest = c.split_at.ensures.back ∙ ap (λ n. drop n c.loop-term.rest.now) c.term_count.ensures in
    rw pushed (
    asked_step c.args.config.now c.args.terms.now (map term_in c.loop-term.made.items) c.loop-term.rest.now c.loop-term.term-index c.term-item.result (term_in c.in-Ok.asked) c.split_at.result.1.now c.loop-term.invariant c.loop-term-test.true c.term-item.is c.in-Ok.ensures.asked c.in-Ok.ensures.within rest)
