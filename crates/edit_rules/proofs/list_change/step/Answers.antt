use Rattle.bundle_edits.proofs.Next.{bundle_next}
use Rattle.edit_rules.proofs.list_change.step.Goals as goal

pub returns-in-Ok-clause-fits : goal.returns-in-Ok-clause-fits
returns-in-Ok-clause-fits c =
    (bundle_next c.args.config.now c.with_own-counts.result c.args.edit.now c.args.bundle c.in-Ok.next c.item_count-count.ensures.rules c.requires.fits c.in-Ok.ensures).is.fits
