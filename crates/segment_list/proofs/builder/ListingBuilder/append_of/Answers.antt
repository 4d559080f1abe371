use Rattle.eql_resolve.proofs.Kept.{result_within}
use Rattle.segment_list.proofs.builder.ListingBuilder.append_of.Goals as goal

pub append_at-requires-clause-level : goal.append_at-requires-clause-level
append_at-requires-clause-level c =
    rw (c.result_level-level.ensures, c.query.ensures)
    (result_within c.args.config.now c.args.asked.now.query c.requires.resolved.within)
