use Rattle.std.proofs.Common.{sym, ◌∙◌}
use Rattle.bundle_edits.proofs.TimedLinks.{from_segments}
use Rattle.bundle_edits.proofs.TimedSteps.{kind_on, to_timed}
use Rattle.bundle_edits.proofs.timed_links.pairs_of.Goals as goal

pub timed_pairs-requires-clause-upper : goal.timed_pairs-requires-clause-upper
timed_pairs-requires-clause-upper c =
    kind_on c.args.config.now c.args.bundle.now c.requires.fits c.args.upper c.args.one.now c.requires.upper c.level.result.now c.level.ensures.level
    ∙ from_segments c.args.one.now.kind c.args.other.now.kind c.in_ok-kinds_pass.ensures

pub timed_pairs-requires-clause-lower : goal.timed_pairs-requires-clause-lower
timed_pairs-requires-clause-lower c = λ item.
    to_timed c.args.one.now.kind c.args.other.now.kind c.in_ok-kinds_pass.ensures
    (sym (kind_on c.args.config.now c.args.bundle.now c.requires.fits c.args.lower c.args.other.now c.requires.lower c.level-2.result.now c.level-2.ensures.level) ∙ item)
