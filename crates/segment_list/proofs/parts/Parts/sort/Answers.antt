use Rattle.std.proofs.Common.{List, rules, subst, sym}
use Rattle.segment_list.specs.declared.parts.Part.{Part}
use Rattle.segment_list.specs.Inner.Merged.{AreApart}
use Rattle.segment_list.proofs.Rising.{by_keys, rising, still_apart}
use Rattle.segment_list.proofs.parts.Parts.sort.Goals as goal

pub returns-clause-rises : goal.returns-clause-rises
returns-clause-rises c =
    let P : List Part → Type 0 = λ parts. AreApart parts in
    rising c.sort_by.new.self.items
    (by_keys c.sort_by.new.self.items c.in_ok-sort_by.ensures.sorted (λ a r q k. search rules))
    (still_apart c.self.inside.list.items c.sort_by.new.self.items c.sort_by.ensures.permutation (subst P
    (sym c.self.view_is) c.requires))
