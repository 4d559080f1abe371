use Rattle.edit_rules.proofs.Stored.{bundle_at}
use Rattle.edit_rules.proofs.database.Database.bundle.Goals as goal

pub returns-in-At-clause-fits : goal.returns-in-At-clause-fits
returns-in-At-clause-fits c =
    (bundle_at c.args.self.now c.in-At.place c.at.result.now c.len-count.ensures.rules c.at.ensures).fits
