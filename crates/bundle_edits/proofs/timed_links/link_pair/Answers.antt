use Rattle.std.proofs.Common.{Result, sym, subst}
use Rattle.emu_names.specs.Inner.Gives.{GivesOrBroken}
use Rattle.emu_names.specs.declared.rules.Broken.{Broken}
use Rattle.bundle_state.specs.Bundle.{BundleParts}
use Rattle.bundle_edits.proofs.PairSteps.{pair_there, pair_new}
use Rattle.bundle_edits.proofs.timed_links.link_pair.Goals as goal

pub returns-then-has : goal.returns-then-has
returns-then-has c = pair_there c.args.pair.now c.args.bundle c.links.result.now c.has.result c.links.ensures c.has.ensures c.if-has.true

pub returns : goal.returns
returns c =
    subst (λ (r : Result BundleParts Broken). GivesOrBroken c.link.result r)
    (sym (pair_new c.args.pair.now c.args.bundle c.links.result.now c.has.result c.links.ensures c.has.ensures c.if-has.false)) c.link.ensures
