use Rattle.std.proofs.Common.{◌≡◌, ◌<◌, sym, ap, ◌∙◌, length, arith, true, false, get_or, [], Some}
use Rattle.std.specs.List.{slice_get}
use Rattle.std.proofs.lemmas.Option.{slice_get_within}
use Rattle.std.proofs.lemmas.List.{length-map}
use Rattle.db_config.specs.Above.{is_above}
use Rattle.hier_closure.specs.Dominance.{dominates, ids_at, closure_row, closure_of}
use Rattle.hier_closure.specs.Inner.Stands.{stand_id}
use Rattle.hier_closure.proofs.Heights.{not_above_self, same_count}
use Rattle.hier_closure.proofs.Joins.{either, child_here, child_above, child_aside, kept_row}
use Rattle.hier_closure.proofs.Places.{standing}
use Rattle.hier_closure.proofs.children.add_stand.Goals as goal

pub set-requires : goal.set-requires
set-requires c =
    let at = standing c.args.bundle.now c.args.stand _ c.requires.under.rules c.requires.ready.there in
    let low : c.args.stand.position < length (ids_at c.args.bundle.now.levels c.args.stand.level) = slice_get_within _ c.args.stand.position _ at.at in
    let same : length (ids_at c.args.bundle.now.levels c.args.stand.level) ≡ length (ids_at c.args.bundle.now.levels c.args.lower) =
    ap (λ n. length (ids_at c.args.bundle.now.levels n)) c.if-level-lower.true in
    let wide : length c.args.row.now ≡ length (ids_at c.args.bundle.now.levels c.args.lower) = c.requires.wide in
    omega arith

pub returns-in-Ok : goal.returns-in-Ok
returns-in-Ok c =
    let bundle = c.args.bundle.now in
    let at = standing bundle c.args.stand _ c.requires.under.rules c.requires.ready.there in
    let self : is_above bundle.definitions c.args.lower c.args.lower ≡ false =
    ap (λ defs. is_above defs c.args.lower c.args.lower) c.requires.under.fits.definitions ∙ not_above_self c.args.config.now c.args.lower c.requires.under.valid in
    c.in-Ok.ensures ∙ child_here bundle c.args.lower c.args.stand.position (stand_id bundle c.args.stand) c.args.row.now c.requires.under.rules self
    (at.level ∙ ap (λ n. Some n) c.if-level-lower.true)
    (ap (λ n. slice_get (ids_at bundle.levels n) c.args.stand.position) (sym c.if-level-lower.true) ∙ at.at)
    c.requires.wide

pub is_above-requires-clause-upper : goal.is_above-requires-clause-upper
is_above-requires-clause-upper c =
    let at = standing c.args.bundle.now c.args.stand _ c.requires.under.rules c.requires.ready.there in
    let count = same_count c.args.config.now c.args.bundle.now c.requires.under.fits in
    omega (arith, at.within, count)

pub is_above-requires-clause-lower : goal.is_above-requires-clause-lower
is_above-requires-clause-lower c =
    let count = same_count c.args.config.now c.args.bundle.now c.requires.under.fits in
    omega (arith, count)

pub kept_row-requires : goal.kept_row-requires
kept_row-requires c =
    let bundle = c.args.bundle.now in
    let at = standing bundle c.args.stand _ c.requires.under.rules c.requires.ready.there in
    let above : is_above bundle.definitions c.args.stand.level c.args.lower ≡ true =
    ap (λ defs. is_above defs c.args.stand.level c.args.lower) c.requires.under.fits.definitions ∙ (sym c.is_above.ensures ∙ c.if-is_above.true) in
    let made : get_or c.args.table.now c.args.stand.level [] ≡ closure_of bundle c.args.lower c.args.stand.level = c.requires.ready.made c.args.stand.level at.level above in
    let long : length (closure_of bundle c.args.lower c.args.stand.level) ≡ length (ids_at bundle.levels c.args.stand.level) =
    length-map (ids_at bundle.levels c.args.stand.level) (closure_row bundle.links (ids_at bundle.levels c.args.lower)) in
    let low : c.args.stand.position < length (ids_at bundle.levels c.args.stand.level) = slice_get_within _ c.args.stand.position _ at.at in
    let same : length (get_or c.args.table.now c.args.stand.level []) ≡ length (closure_of bundle c.args.lower c.args.stand.level) = ap length made in
    omega arith

pub join-requires : goal.join-requires
join-requires c =
    let bundle = c.args.bundle.now in
    let at = standing bundle c.args.stand _ c.requires.under.rules c.requires.ready.there in
    let above : is_above bundle.definitions c.args.stand.level c.args.lower ≡ true =
    ap (λ defs. is_above defs c.args.stand.level c.args.lower) c.requires.under.fits.definitions ∙ (sym c.is_above.ensures ∙ c.if-is_above.true) in
    let made : get_or c.args.table.now c.args.stand.level [] ≡ closure_of bundle c.args.lower c.args.stand.level = c.requires.ready.made c.args.stand.level at.level above in
    let row = kept_row bundle.links (ids_at bundle.levels c.args.lower) (ids_at bundle.levels c.args.stand.level) c.args.stand.position
    (stand_id bundle c.args.stand).0 c.kept_row.result.now (ap (λ rows. slice_get rows c.args.stand.position) (sym made) ∙ c.kept_row.ensures) at.at in
    c.requires.wide ∙ sym (ap length row ∙ length-map (ids_at bundle.levels c.args.lower) (dominates bundle.links (stand_id bundle c.args.stand).0))

pub returns-in-Ok-join : goal.returns-in-Ok-join
returns-in-Ok-join c =
    let bundle = c.args.bundle.now in
    let at = standing bundle c.args.stand _ c.requires.under.rules c.requires.ready.there in
    let above : is_above bundle.definitions c.args.stand.level c.args.lower ≡ true =
    ap (λ defs. is_above defs c.args.stand.level c.args.lower) c.requires.under.fits.definitions ∙ (sym c.is_above.ensures ∙ c.if-is_above.true) in
    let made : get_or c.args.table.now c.args.stand.level [] ≡ closure_of bundle c.args.lower c.args.stand.level = c.requires.ready.made c.args.stand.level at.level above in
    let row = kept_row bundle.links (ids_at bundle.levels c.args.lower) (ids_at bundle.levels c.args.stand.level) c.args.stand.position
    (stand_id bundle c.args.stand).0 c.kept_row.result.now (ap (λ rows. slice_get rows c.args.stand.position) (sym made) ∙ c.kept_row.ensures) at.at in
    c.in-Ok-join.ensures
    ∙ ap (either c.args.row.now)
    (row ∙ child_above bundle c.args.stand.level c.args.lower (stand_id bundle c.args.stand) c.requires.under.rules at.level c.if-level-lower.false)

pub returns : goal.returns
returns c =
    let bundle = c.args.bundle.now in
    let at = standing bundle c.args.stand _ c.requires.under.rules c.requires.ready.there in
    let aside : is_above bundle.definitions c.args.stand.level c.args.lower ≡ false =
    ap (λ defs. is_above defs c.args.stand.level c.args.lower) c.requires.under.fits.definitions ∙ (sym c.is_above.ensures ∙ c.if-is_above.false) in
    child_aside bundle c.args.stand.level c.args.lower (stand_id bundle c.args.stand) c.args.row.now c.requires.under.rules at.level c.if-level-lower.false
    aside c.requires.wide
