use Rattle.std.proofs.Common.{sym, subst, ◌∙◌}
use Rattle.std.specs.String.{string_bytes}
use Rattle.bundle_index.specs.Inner.Numbered.{AreNumbered}
use Rattle.bundle_index.proofs.Numbers.{clones_seen}
use Rattle.bundle_index.proofs.labels.LabelSetClone.clone.Goals as goal

pub invariant_of-result : goal.invariant_of-result
invariant_of-result c =
    subst AreNumbered
    (sym (clones_seen string_bytes c.self.inside.set.keys c.in_ok-set.set.keys c.in_ok-set.ensures.cases))
    c.self.invariant

pub returns : goal.returns
returns c = record {
  cases = clones_seen string_bytes c.self.inside.set.keys c.in_ok-set.set.keys c.in_ok-set.ensures.cases ∙ c.self.view_is;
}
