use Rattle.eql_resolve.proofs.Kept.{result_within}
use Rattle.requery.proofs.resolution.resolve_requery.Goals as goal

pub target_of-requires : goal.target_of-requires
target_of-requires c =
    rw (c.result_level.ensures, c.query.ensures)
    (result_within c.args.config.now _ c.in-Ok.ensures.sound.within)
