use Rattle.std.proofs.Common.{◌∙◌, ap, cond, eqb, not}
use Rattle.std.specs.List.{filter}
use Rattle.emu_names.specs.declared.kinds.ItemId.{ItemId}
use Rattle.link_graph.specs.declared.link.Link.{Link}
use Rattle.link_graph.specs.Inner.Ends.{other_end}
use Rattle.link_graph.specs.Link.{names_item}
use Rattle.link_graph.specs.Inner.Index.{links_at}
use Rattle.link_graph.proofs.Steps.{forgot_step}
use Rattle.link_graph.proofs.index.forget.Goals as goal

abbrev no_link : Link
no_link = record { definition = 0; from = record { 0 = 0 }; to = record { 0 = 0 } }

pub loop-link-preserved : goal.loop-link-preserved
loop-link-preserved c key =
    forgot_step (λ link. eqb (other_end c.args.end link).0 key) c.args.links.now c.loop-link.link-index no_link c.args.id _ _ _ c.loop-link-test.true
    (c.loop-link.invariant key)
    (c.forget.ensures key ∙ ap (λ (id : ItemId). cond (eqb id.0 key) (filter (λ link. not (names_item c.args.id link)) (links_at c.loop-link.map key)) (links_at c.loop-link.map key)) c.other.ensures)
