use Rattle.std.proofs.Common.{◌≡◌, rules}
use Rattle.bundle_state.specs.Bundle.{level_of_id}
use Rattle.bundle_state.proofs.IdLevels.{number_within}
use Rattle.bundle_state.proofs.bundle.Bundle.level_with.Goals as goal

pub returns-clause-within : goal.returns-clause-within
returns-clause-within c =
    let is : c.level_of.result ≡ level_of_id c.args.self.now.levels c.args.id.0 = search rules in
    number_within c.args.id.0 c.args.self.now.levels c.level_of.result is
