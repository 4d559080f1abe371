use Rattle.std.proofs.Common.{◌≡◌, ◌∙◌, ap, false, is_some, subst, sym}
use Rattle.std.specs.List.{list_any}
use Rattle.link_graph.specs.Inner.Link.{IsPairPlace}
use Rattle.link_graph.specs.Link.{joins}
use Rattle.link_graph.proofs.indexed.Indexed.place.Goals as goal

pub returns-in_err-block : goal.returns-in_err-block
returns-in_err-block c =
    let none : list_any (joins c.args.from c.args.to) c.args.self.now ≡ false =
    rw (← c.self.view_is) (sym (c.self.invariant.indexed.pairs c.args.from.0 c.args.to.0) ∙ sym c.block.ensures ∙ ap is_some c.in_err-block.was) in
    subst (IsPairPlace c.args.from c.args.to c.args.self.now) (sym c.from_residual.ensures) none
