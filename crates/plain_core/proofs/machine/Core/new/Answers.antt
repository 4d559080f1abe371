use Rattle.edit_undo.specs.edit_rules.Effects.{after}
use Rattle.session_core.proofs.Keeping.{kept_begin, begun}
use Rattle.plain_core.proofs.Ruled.{made_ruled}
use Rattle.plain_core.proofs.machine.Core.new.Goals as goal

pub returns-clause-begun : goal.returns-clause-begun
returns-clause-begun c =
    begun c.args.config c.in_ok-opening.opening c.args.history c.len-base.result c.in_ok-looks.looks c.in_ok-queries.queries
    c.in_ok-opening.ensures c.len-base.ensures c.in_ok-looks.ensures c.in_ok-queries.ensures

pub returns-clause-legal : goal.returns-clause-legal
returns-clause-legal c =
    (c.in_ok-database.database, made_ruled (after c.args.config c.args.history) c.in_ok-database.database c.in_ok-database.ensures)

pub invariant_of-result : goal.invariant_of-result
invariant_of-result c =
    kept_begin c.args.config c.in_ok-opening.opening c.args.history c.len-base.result c.in_ok-database.database c.new-kept.result.acts c.in_ok-looks.looks c.in_ok-queries.queries
    c.in_ok-opening.ensures
    (made_ruled (after c.args.config c.args.history) c.in_ok-database.database c.in_ok-database.ensures)
    c.len-base.ensures c.new-kept.ensures c.in_ok-looks.ensures c.in_ok-queries.ensures
