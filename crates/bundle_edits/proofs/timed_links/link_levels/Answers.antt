use Rattle.std.proofs.Common.{List, Result, sym, ◌∙◌, ap, subst}
use Rattle.emu_names.specs.Inner.Gives.{GivesOrBroken}
use Rattle.emu_names.specs.declared.rules.Broken.{Broken}
use Rattle.level_items.specs.declared.annot.AnnotLink.{AnnotLink}
use Rattle.bundle_state.specs.Bundle.{BundleParts}
use Rattle.bundle_edits.specs.Changes.{pairs_linked}
use Rattle.bundle_edits.proofs.timed_links.link_levels.Goals as goal

pub returns-in-Ok : goal.returns-in-Ok
returns-in-Ok c =
    subst (λ (r : Result BundleParts Broken). GivesOrBroken c.link_pairs.result r)
    (ap (λ (ps : List AnnotLink). pairs_linked ps c.args.bundle) c.as_slice.ensures ∙ sym c.in-Ok.ensures) c.link_pairs.ensures
