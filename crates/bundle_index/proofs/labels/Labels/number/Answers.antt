use Rattle.bundle_index.proofs.Numbers.{label_found}
use Rattle.bundle_index.proofs.labels.Labels.number.Goals as goal

pub returns-in-Some-clause-number : goal.returns-in-Some-clause-number
returns-in-Some-clause-number c = label_found c.args.self.now c.args.label.now c.in-Some.number c.in-Some.ensures.number
