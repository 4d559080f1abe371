use Rattle.std.proofs.Common.{Result, sym, subst}
use Rattle.emu_names.specs.Inner.Gives.{GivesOrBroken}
use Rattle.emu_names.specs.declared.rules.Broken.{Broken}
use Rattle.bundle_state.specs.Bundle.{BundleParts}
use Rattle.bundle_state.specs.Changed.{item_retimed}
use Rattle.emu_names.specs.Steps.{onward}
use Rattle.bundle_edits.proofs.segments.with_times.Goals as goal

pub returns : goal.returns
returns c =
    subst (λ (r : Result BundleParts Broken). GivesOrBroken c.with_time-2.result (onward r (item_retimed c.args.second.0 c.args.second.1)))
    (sym c.in_ok-next.ensures)
    c.with_time-2.ensures
