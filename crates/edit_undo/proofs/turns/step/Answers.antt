use Rattle.edit_undo.specs.Inverse.{uncounted}
use Rattle.bundle_edits.proofs.Next.{bundle_next}
use Rattle.edit_undo.proofs.turns.step.Goals as goal

pub returns-in-Ok-clause-fits : goal.returns-in-Ok-clause-fits
returns-in-Ok-clause-fits c =
    (bundle_next c.args.config.now uncounted c.args.edit.now c.args.bundle c.in-Ok.next c.item_count-rules.ensures.rules c.requires.fits c.in-Ok.ensures).is.fits
