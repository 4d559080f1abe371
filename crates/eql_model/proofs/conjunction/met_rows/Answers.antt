use Rattle.eql_resolve.specs.Inner.View.{term_in}
use Rattle.eql_model.specs.Inner.Meaning.{met_row}
use Rattle.eql_model.proofs.MadeRows.{made_step}
use Rattle.eql_model.proofs.conjunction.met_rows.Goals as goal

pub loop-term-preserved : goal.loop-term-preserved
loop-term-preserved c =
    made_step (λ t. met_row c.args.config.now c.args.bundle.now c.args.level (term_in t)) c.args.terms.now c.loop-term.term-index
    c.term-item.result c.loop-term.rows c.push.new.self c.in_ok-met_row.field-0 c.loop-term-test.true c.term-item.is
    c.loop-term.invariant c.in_ok-met_row.ensures c.in_ok-push.ensures.ok
