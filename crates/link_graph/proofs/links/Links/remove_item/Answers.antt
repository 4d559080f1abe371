use Rattle.std.proofs.Common.{not, subst, sym}
use Rattle.link_graph.specs.Inner.Forms.{AreKept}
use Rattle.link_graph.specs.Link.{names_item}
use Rattle.link_graph.proofs.Few.{few_left}
use Rattle.link_graph.proofs.links.Links.remove_item.Goals as goal
use Rattle.link_graph.proofs.links.Links.remove_item.Goals.{in-Few, in-Many}

pub invariant_of-self : goal.invariant_of-self
invariant_of-self c =
    elim c.match-self.branch [
      | in-Few w ↦
          subst (λ s. AreKept s.kept) (sym w.self-inside-is)
          (few_left (λ l. not (names_item c.args.id l)) w.in-Few.links _ (subst AreKept w.in-Few.is c.self.invariant) w.take_item.ensures)
      | in-Many w ↦ subst (λ s. AreKept s.kept) (sym w.self-inside-is) tt
    ]
