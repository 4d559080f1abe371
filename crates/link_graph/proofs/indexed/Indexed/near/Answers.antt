use Rattle.std.proofs.Common.{◌∙◌, ap, subst, sym}
use Rattle.std.specs.List.{filter}
use Rattle.link_graph.specs.Inner.Blocks.{joined}
use Rattle.link_graph.specs.Inner.Ends.{AreSameAt, has_end}
use Rattle.link_graph.specs.declared.ends.End.TheVariants.{From, To}
use Rattle.link_graph.proofs.Filters.{filter_off}
use Rattle.link_graph.proofs.indexed.Indexed.near.Goals as goal

pub returns-in-From : goal.returns-in-From
returns-in-From c =
    let p = has_end From c.args.id.0 in
    let links = joined c.self.inside.blocks.items in
    rw (← c.self.view_is)
    (subst (λ e. AreSameAt e c.args.id.0 c.at.result.now links) (sym c.in-From.is)
    (ap (filter p) (c.at.ensures ∙ c.self.invariant.indexed.down c.args.id.0) ∙ filter_off p p (λ x h. h) links))

pub returns-in-To : goal.returns-in-To
returns-in-To c =
    let p = has_end To c.args.id.0 in
    let links = joined c.self.inside.blocks.items in
    rw (← c.self.view_is)
    (subst (λ e. AreSameAt e c.args.id.0 c.at-in-To.result.now links) (sym c.in-To.is)
    (ap (filter p) (c.at-in-To.ensures ∙ c.self.invariant.indexed.up c.args.id.0) ∙ filter_off p p (λ x h. h) links))
