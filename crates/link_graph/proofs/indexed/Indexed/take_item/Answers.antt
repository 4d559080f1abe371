use Rattle.std.proofs.Common.{not, ◌∙◌, sym, subst}
use Rattle.link_graph.specs.Link.{ArePairsApart, names_item}
use Rattle.link_graph.specs.Inner.Blocks.{joined}
use Rattle.link_graph.proofs.Keeping.{filter_kept}
use Rattle.link_graph.proofs.Kept.{distinct_filter}
use Rattle.link_graph.proofs.Steps.{item_gone}
use Rattle.link_graph.proofs.indexed.Indexed.take_item.Goals as goal

pub take_all-requires-2 : goal.take_all-requires-2
take_all-requires-2 c = subst ArePairsApart (sym c.take_all.ensures) (distinct_filter _ _ _ c.self.invariant.apart)

pub invariant_of-self : goal.invariant_of-self
invariant_of-self c =
    let gone = item_gone c.args.id (joined c.self.inside.blocks.items) _ _ _ _ (c.at.ensures ∙ c.self.invariant.indexed.down c.args.id.0)
    (c.at-2.ensures ∙ c.self.invariant.indexed.up c.args.id.0) c.take_all.ensures c.take_all-2.ensures in
    filter_kept (λ l. not (names_item c.args.id l)) (joined c.self.inside.blocks.items) _ _ _ c.self.invariant gone (c.remove_item.ensures _ c.self.invariant.indexed)

pub returns : goal.returns
returns c =
    rw (← c.self.view_is)
    (item_gone c.args.id (joined c.self.inside.blocks.items) _ _ _ _ (c.at.ensures ∙ c.self.invariant.indexed.down c.args.id.0)
    (c.at-2.ensures ∙ c.self.invariant.indexed.up c.args.id.0) c.take_all.ensures c.take_all-2.ensures)
