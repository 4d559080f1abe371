use Rattle.std.proofs.Common.{Result, sym, subst}
use Rattle.emu_names.specs.Inner.Gives.{GivesOrBroken}
use Rattle.emu_names.specs.declared.rules.Broken.{Broken}
use Rattle.bundle_state.specs.Bundle.{BundleParts}
use Rattle.bundle_edits.proofs.segments.merge.Goals as goal

pub returns-in-Ok : goal.returns-in-Ok
returns-in-Ok c = subst (λ (r : Result BundleParts Broken). GivesOrBroken c.taken_and_retimed.result r) (sym c.in-Ok.ensures) c.taken_and_retimed.ensures
