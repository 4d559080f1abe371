use Rattle.std.proofs.Common.{◌≡◌, ◌∙◌, ap, sym}
use Rattle.std.specs.List.{list_any}
use Rattle.link_graph.specs.Inner.Forms.{kept_links}
use Rattle.link_graph.specs.Link.{joins}
use Rattle.link_graph.proofs.PairPlaces.{is_found}
use Rattle.link_graph.proofs.links.Links.has.Goals as goal

pub returns-in-Few : goal.returns-in-Few
returns-in-Few c =
    let same : c.as_slice.result.now ≡ c.args.self.now = c.as_slice.ensures ∙ sym (ap kept_links c.in-Few.is) ∙ c.self.view_is in
    c.is_some.ensures ∙ is_found c.args.from c.args.to c.as_slice.result.now c.place_of.result c.place_of.ensures
    ∙ ap (list_any (joins c.args.from c.args.to)) same
