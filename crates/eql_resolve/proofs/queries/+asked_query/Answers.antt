use Rattle.eql_resolve.specs.Inner.View.{query_in}
use Rattle.eql_resolve.proofs.Kept.{level_within}
use Rattle.eql_resolve.proofs.queries.+asked_query.Goals as goal

pub dominance_of-requires-clause-left : goal.dominance_of-requires-clause-left
dominance_of-requires-clause-left t c =
    level_within c.args.config.now (query_in c.in_ok-left-in-Dominance.left) c.in_ok-left-in-Dominance.ensures.sound.within

pub dominance_of-requires-clause-right : goal.dominance_of-requires-clause-right
dominance_of-requires-clause-right t c =
    level_within c.args.config.now (query_in c.in-Ok-asked_query.right) c.in-Ok-asked_query.ensures.sound.within
