use Rattle.std.proofs.Common.{◌∙◌, ap, subst, sym}
use Rattle.std.specs.List.{list_any}
use Rattle.link_graph.specs.Inner.Forms.{AreKept, HasRoom, kept_links}
use Rattle.link_graph.specs.Link.{joins}
use Rattle.link_graph.proofs.Few.{few_put}
use Rattle.link_graph.proofs.links.Links.put.Goals as goal
use Rattle.link_graph.proofs.links.Links.put.Goals.{in-Few, in-Many}

pub invariant_of-self-2 : goal.invariant_of-self-2
invariant_of-self-2 c =
    let j = joins c.args.link.from c.args.link.to in
    elim c.match-self.branch [
      | in-Few w ↦
          subst (λ s. AreKept s.kept) (sym w.self-inside-is)
          (few_put w.insert.result c.args.link c.args.place w.in-Few.links w.insert.new.self (subst AreKept w.in-Few.is c.make_room.ensures.kept)
          (subst HasRoom w.in-Few.is c.in_ok-make_room.ensures.room)
          (ap (list_any j) (sym (ap kept_links w.in-Few.is) ∙ c.make_room.ensures.same ∙ c.self.view_is) ∙ c.requires.apart) w.insert.ensures.ok w.insert.ensures.err)
      | in-Many w ↦ subst (λ s. AreKept s.kept) (sym w.self-inside-is) tt
    ]
