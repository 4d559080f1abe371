use Rattle.version_steps.proofs.Drafting.{added_keeps}
use Rattle.version_steps.proofs.added.with_added.Goals as goal

pub with_indexed-requires : goal.with_indexed-requires
with_indexed-requires c = added_keeps c.args.version.now c.args.edit.now c.args.indexed c.requires.keeps c.requires.made
