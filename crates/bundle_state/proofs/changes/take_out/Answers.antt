use Rattle.std.proofs.Common.{◌≡◌, false, rules}
use Rattle.std.specs.List.{list_any}
use Rattle.link_graph.specs.Link.{names_item}
use Rattle.bundle_state.proofs.NamedLinks.{none_taken}
use Rattle.bundle_state.proofs.changes.take_out.Goals as goal

pub returns-then-not-has_links-clause-unlinked : goal.returns-then-not-has_links-clause-unlinked
returns-then-not-has_links-clause-unlinked c =
    let none : list_any (names_item c.args.id) c.args.links.now ≡ false = search rules in
    none_taken c.args.id c.args.links.now c.take_item.result none
