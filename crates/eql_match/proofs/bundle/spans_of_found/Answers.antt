use Rattle.eql_resolve.specs.Inner.View.{query_in}
use Rattle.eql_match.proofs.ItemsShown.{nothing_matches}
use Rattle.eql_match.proofs.bundle.spans_of_found.Goals as goal

pub returns-then-is_nothing : goal.returns-then-is_nothing
returns-then-is_nothing c =
    nothing_matches c.args.config.now c.args.indexed.now.bundle (query_in c.args.query.now) c.args.found c.new.result
    (c.is_nothing.ensures c.if-is_nothing.true) c.requires.found c.new.ensures
