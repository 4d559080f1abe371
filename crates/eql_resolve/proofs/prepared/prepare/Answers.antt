use Rattle.eql_resolve.proofs.Bounds.{patterns_few}
use Rattle.eql_resolve.proofs.prepared.prepare.Goals as goal

pub with_patterns-requires : goal.with_patterns-requires
with_patterns-requires g c = patterns_few c.args.text.now _ c.in-Ok.ensures.found
