use Rattle.std.proofs.Common.{sym, ◌∙◌, length, refl}
use Rattle.std.proofs.lemmas.Option.{slice_get_read}
use Rattle.std.proofs.lemmas.Bool.{eqb-true}
use Rattle.hier_closure.proofs.Near.{id_there, near_place}
use Rattle.hier_closure.proofs.children.place_near.Goals as goal

pub returns-in-Some : goal.returns-in-Some
returns-in-Some c =
    let levels = c.args.bundle.now.levels in
    let items = c.as_slice.result.now in
    let here = c.in-Some.ensures.lookup in
    near_place levels c.args.near.0 c.args.near.1 c.args.id.0 c.requires.rules.apart
    (id_there levels c.args.near.0 c.args.near.1 c.level.result.now items c.in-Some.item.now c.args.id.0 c.level.ensures.level c.as_slice.ensures
    (slice_get_read items (length items) c.args.near.1 c.in-Some.item.now refl here.3.0 here.1)
    (eqb-true _ _ (sym c.eq.ensures ∙ c.if-eq.true)))
