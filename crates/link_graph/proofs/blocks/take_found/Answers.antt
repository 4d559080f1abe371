use Rattle.std.proofs.Common.{◌≡◌, false, sym, ap, ◌∙◌}
use Rattle.std.specs.List.{list_any}
use Rattle.link_graph.specs.Link.{joins}
use Rattle.link_graph.specs.Inner.Blocks.{joined}
use Rattle.link_graph.proofs.Filters.{filter_all}
use Rattle.link_graph.proofs.Joined.{taken_written}
use Rattle.link_graph.proofs.blocks.take_found.Goals as goal

pub returns-in-Some : goal.returns-in-Some
returns-in-Some c =
    let vec = c.args.blocks.now in
    taken_written c.args.from c.args.to vec.items c.as_slice.result.now c.deref_mut.result.now c.take_at.new.blocks vec.len c.in-Some.at
    vec.ok.0 c.as_slice.ensures.value c.deref_mut.ensures.value c.requires c.in-Some.ensures.within c.in-Some.ensures.there c.take_at.ensures

pub returns-in-None : goal.returns-in-None
returns-in-None c =
    let none : list_any (joins c.args.from c.args.to) (joined c.args.blocks.now.items) ≡ false =
    ap (λ bs. list_any (joins c.args.from c.args.to) (joined bs)) (sym c.as_slice.ensures.value) ∙ c.in-None.ensures.none in
    sym (filter_all (joins c.args.from c.args.to) (joined c.args.blocks.now.items) none)
