use Rattle.std.proofs.Common.{ap, ◌∙◌, rules}
use Rattle.eql_model.specs.Labels.{is_as}
use Rattle.eql_model.proofs.MadeRows.{match_step}
use Rattle.eql_model.proofs.labels.match_flags.Goals as goal

pub loop-at-preserved : goal.loop-at-preserved
loop-at-preserved c =
    match_step c.args.found c.args.attribute c.args.patterns.now c.args.items.now c.as_slice.result.now c.loop-at.flags
    c.push.new.self c.loop-at.at c.is_as.result c.loop-at-test.true c.loop-at.invariant
    (search (rules, c.as_slice.ensures, c.rows.view_is, c.in_ok-rows.ensures))
    (c.is_as.ensures ∙ ap (is_as c.args.found) c.any_at-is.ensures)
    c.in_ok-push.ensures.ok
