use Rattle.std.proofs.Common.{◌≡◌, false, insert, subst, sym}
use Rattle.std.specs.List.{list_any}
use Rattle.link_graph.specs.Inner.Index.{Indexes}
use Rattle.link_graph.specs.Link.{joins}
use Rattle.link_graph.specs.Inner.Links.{AreLinks}
use Rattle.link_graph.specs.Inner.Blocks.{joined}
use Rattle.link_graph.proofs.Inserted.{insert_kept, undone_insert}
use Rattle.link_graph.proofs.indexed.Indexed.put.Goals as goal

pub invariant_of-self-in-Ok : goal.invariant_of-self-in-Ok
invariant_of-self-in-Ok c =
    let place = c.args.place in
    let link = c.args.link in
    insert_kept link place (joined c.self.inside.blocks.items) _ _ _ c.self.invariant (rw c.self.view_is c.requires.room) (rw c.self.view_is c.requires.apart)
    c.in-Ok.ensures.ok (subst (λ bs. Indexes c.add.new.self (insert (joined bs) place link)) c.as_slice.ensures.value c.in_ok-add.ensures.ok)

pub invariant_of-self-in-Err : goal.invariant_of-self-in-Err
invariant_of-self-in-Err c =
    let links = joined c.self.inside.blocks.items in
    let place = c.args.place in
    let link = c.args.link in
    let apart : list_any (joins link.from link.to) links ≡ false = rw c.self.view_is c.requires.apart in
    let added = subst (λ bs. Indexes c.add.new.self (insert (joined bs) place link)) c.as_slice.ensures.value c.in_ok-add.ensures.ok in
    let indexed = c.remove.ensures (insert links place link) added in
    subst (λ ls. AreLinks ls c.remove.new.self) (sym c.in-Err.ensures.err)
    (record {
      apart = c.self.invariant.apart;
      limit = c.self.invariant.limit;
      indexed = subst (Indexes c.remove.new.self) (undone_insert link place links apart) indexed;
    })
