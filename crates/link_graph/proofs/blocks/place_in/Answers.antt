use Rattle.std.proofs.Common.{◌≤◌, ◌+◌, ◌∙◌, ap, Some, subst, sym, arith}
use Rattle.emu_names.specs.declared.limits.TheConstants.{BUNDLE_LINKS}
use Rattle.std.specs.List.{position}
use Rattle.link_graph.specs.Inner.Blocks.{joined}
use Rattle.link_graph.specs.Inner.Link.{IsPairPlace}
use Rattle.link_graph.specs.Link.{joins}
use Rattle.link_graph.proofs.PairPlaces.{no_pair_there, pair_place, places_fit, pair_in_all}
use Rattle.link_graph.proofs.blocks.place_in.Goals as goal

pub overflow_add-result : goal.overflow_add-result
overflow_add-result c =
    let few : c.count_of.result + c.in_ok-place.place ≤ BUNDLE_LINKS =
    places_fit c.args.from c.args.to c.args.blocks.now c.split_at.result.0.now c.index-blocks-at.result c.args.at c.in_ok-place.place c.count_of.result BUNDLE_LINKS
    c.requires.within c.index-blocks-at.is (pair_place c.args.from c.args.to c.index-blocks-at.result (Some c.in_ok-place.place) (c.in_ok-place.ensures ∙ ap (position (joins c.args.from c.args.to)) c.as_slice.ensures)) c.split_at.ensures.front c.count_of.ensures c.requires.few in
    omega (arith, few)

pub returns-in_err-place : goal.returns-in_err-place
returns-in_err-place c =
    let j = joins c.args.from c.args.to in
    let block = c.index-blocks-at.result in
    let found = pair_place c.args.from c.args.to block c.place_of.result (c.place_of.ensures ∙ ap (position j) c.as_slice.ensures) in
    subst (IsPairPlace c.args.from c.args.to (joined c.args.blocks.now)) (sym c.from_residual.ensures)
    (no_pair_there c.args.from c.args.to c.args.blocks.now block (joined c.args.blocks.now) c.args.at c.requires.within c.index-blocks-at.is c.requires.there
    (subst (IsPairPlace c.args.from c.args.to block) c.in_err-place.was found))

pub returns : goal.returns
returns c =
    pair_in_all c.args.from c.args.to c.args.blocks.now c.split_at.result.0.now c.index-blocks-at.result c.args.at c.in_ok-place.place c.count_of.result
    c.requires.within c.index-blocks-at.is (pair_place c.args.from c.args.to c.index-blocks-at.result (Some c.in_ok-place.place) (c.in_ok-place.ensures ∙ ap (position (joins c.args.from c.args.to)) c.as_slice.ensures)) c.split_at.ensures.front c.count_of.ensures
