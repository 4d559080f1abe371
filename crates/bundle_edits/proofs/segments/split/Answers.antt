use Rattle.std.proofs.Common.{Result, sym, subst}
use Rattle.emu_names.specs.Inner.Gives.{GivesOrBroken}
use Rattle.emu_names.specs.declared.rules.Broken.{Broken}
use Rattle.bundle_state.specs.Bundle.{BundleParts}
use Rattle.bundle_edits.proofs.segments.split.Goals as goal

pub returns-in-Ok : goal.returns-in-Ok
returns-in-Ok c = subst (λ (r : Result BundleParts Broken). GivesOrBroken c.cut.result r) (sym c.in-Ok.ensures.parts) c.cut.ensures
