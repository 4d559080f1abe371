use Rattle.std.proofs.Common.{ap, option_copied}
use Rattle.edit_rules.proofs.Calls.{missing_gives}
use Rattle.edit_rules.proofs.list_change.change_several.Goals as goal

pub returns-in-None : goal.returns-in-None
returns-in-None c =
    missing_gives c.args.config.now c.args.counts (option_copied c.args.old) c.args.edits.now (ap (λ o. option_copied o) c.in-None.is) c.requires.some c.requires.inner
