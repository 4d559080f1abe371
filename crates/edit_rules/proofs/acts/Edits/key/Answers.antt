use Rattle.edit_rules.proofs.Lists.{keys_at}
use Rattle.edit_rules.proofs.acts.Edits.key.Goals as goal

pub returns : goal.returns
returns c = keys_at c.args.self.now c.get.result.now c.key.result.now c.len-count.ensures.together.together c.get.ensures c.key.ensures
