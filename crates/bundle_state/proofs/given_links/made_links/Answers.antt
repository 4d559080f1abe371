use Rattle.std.proofs.Common.{◌≡◌, ◌∙◌, ◌+◌, sym, ap, [], get_or, drop, Err}
use Rattle.emu_names.specs.declared.rules.Broken.{Broken}
use Rattle.level_items.specs.declared.annot.AnnotLink.{AnnotLink}
use Rattle.bundle_state.specs.Bundle.{level_of_id}
use Rattle.bundle_state.specs.Linked.{put_link, put_links}
use Rattle.bundle_state.proofs.Walks.{drop_get}
use Rattle.bundle_state.proofs.LinksKept.{onward_stops, onward_goes, broken_ends}
use Rattle.bundle_state.proofs.given_links.made_links.Goals as goal

abbrev no_link : AnnotLink
no_link = record { from = record { 0 = 0 }; to = record { 0 = 0 } }

pub returns-in-Err : goal.returns-in-Err
returns-in-Err c =
    let defs = c.args.config.now.links in
    let level = level_of_id c.args.levels.now in
    let given : AnnotLink = get_or c.args.given.now c.loop-place.place no_link in
    let rest = drop (c.loop-place.place + 1) c.args.given.now in
    broken_ends c.in-Err.fault (put_link defs level c.loop-place.links given) (put_links defs level c.args.given.now [])
    c.in-Err.ensures.broken
    (λ (rule : Broken) (bad : put_link defs level c.loop-place.links given ≡ Err rule).
    sym c.loop-place.invariant
    ∙ ap (λ gs. put_links defs level gs c.loop-place.links) (drop_get c.args.given.now c.loop-place.place no_link c.loop-place-test.true)
    ∙ onward_stops (put_link defs level c.loop-place.links given) (put_links defs level rest) rule bad)

pub loop-place-preserved : goal.loop-place-preserved
loop-place-preserved c =
    let defs = c.args.config.now.links in
    let level = level_of_id c.args.levels.now in
    let given : AnnotLink = get_or c.args.given.now c.loop-place.place no_link in
    let rest = drop (c.loop-place.place + 1) c.args.given.now in
    sym (onward_goes (put_link defs level c.loop-place.links given) (put_links defs level rest) c.put_link.new.links c.in-Ok.ensures.ok)
    ∙ ap (λ gs. put_links defs level gs c.loop-place.links) (sym (drop_get c.args.given.now c.loop-place.place no_link c.loop-place-test.true))
    ∙ c.loop-place.invariant
