use Rattle.version_steps.proofs.StepChanges.{touched_rows}
use Rattle.version_steps.proofs.edited.reindexed.Goals as goal

pub changed_on-requires : goal.changed_on-requires
changed_on-requires c =
    touched_rows c.args.config.now c.args.old.now.bundle c.args.edits.now c.args.bundle.levels c.in_ok-row.row _ _ c.requires c.bundle.ensures c.as_slice.ensures c.in_ok-row.ensures
