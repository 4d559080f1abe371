use Rattle.std.proofs.Common.{◌∙◌, not, subst, sym}
use Rattle.link_graph.specs.Inner.Forms.{AreKept}
use Rattle.link_graph.specs.Link.{joins}
use Rattle.link_graph.proofs.Few.{few_left}
use Rattle.link_graph.proofs.Filters.{filter_all}
use Rattle.link_graph.proofs.links.Links.remove.Goals as goal
use Rattle.link_graph.proofs.links.Links.remove.Goals.{in-Few, in-Many}

pub returns-then-not-has-clause-ok : goal.returns-then-not-has-clause-ok
returns-then-not-has-clause-ok c = sym (filter_all (joins c.args.from c.args.to) _ (sym c.has.ensures ∙ c.if-not-has.true))

pub invariant_of-self : goal.invariant_of-self
invariant_of-self c =
    elim c.match-self.branch [
      | in-Few w ↦
          subst (λ s. AreKept s.kept) (sym w.self-inside-is)
          (few_left (λ l. not (joins c.args.from c.args.to l)) w.in-Few.links _ (subst AreKept w.in-Few.is c.self.invariant) w.take_pair.ensures)
      | in-Many w ↦ subst (λ s. AreKept s.kept) (sym w.self-inside-is) tt
    ]
