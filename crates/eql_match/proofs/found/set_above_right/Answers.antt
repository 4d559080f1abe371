use Rattle.std.proofs.Common.{length, sym, ap, subst, ◌∙◌}
use Rattle.db_config.specs.Above.{is_above}
use Rattle.bundle_state.specs.Valid.{KeepsBundleRules}
use Rattle.hier_closure.specs.Dominance.{closure_of}
use Rattle.eql_match.specs.Inner.Found.{above_some}
use Rattle.eql_match.proofs.Agreed.{agreed_above, agreed_count, agreed_wide}
use Rattle.eql_match.proofs.RowsBetween.{none_above, rows_are, all_wide, row_few}
use Rattle.eql_match.proofs.found.set_above_right.Goals as goal

pub returns-then-not-is_above : goal.returns-then-not-is_above
returns-then-not-is_above c =
    none_above c.args.indexed.now.bundle c.args.levels.0 c.args.levels.1 c.args.lefts.now c.args.rights.now c.args.made.now
    (subst KeepsBundleRules c.bundle.ensures c.item_count-items.ensures.rules)
    (ap (λ defs. is_above defs c.args.levels.0 c.args.levels.1) c.requires.fits.definitions
    ∙ (sym c.is_above.ensures ∙ c.if-not-is_above.true))
    c.requires.unset

pub set_above-requires-clause-few : goal.set_above-requires-clause-few
set_above-requires-clause-few c =
    row_few c.args.indexed.now.bundle c.args.levels.0 (length c.args.lefts.now)
    (subst KeepsBundleRules c.bundle.ensures c.item_count-items.ensures.rules) c.requires.lefts

pub set_above-requires-clause-rows : goal.set_above-requires-clause-rows
set_above-requires-clause-rows c =
    rows_are c.args.indexed.now.bundle c.args.levels.0 c.args.levels.1 (length c.args.lefts.now) c.in-Some.rows.now c.in-Some.ensures c.requires.lefts

pub set_above-requires-clause-wide : goal.set_above-requires-clause-wide
set_above-requires-clause-wide c =
    all_wide c.args.indexed.now.bundle c.args.levels.0 c.args.levels.1 (length c.args.rights.now) c.in-Some.rows.now c.in-Some.ensures c.requires.rights

pub returns-in-Some : goal.returns-in-Some
returns-in-Some c = c.set_above.ensures ∙ ap (λ rows. above_some rows c.args.lefts.now c.args.rights.now) c.in-Some.ensures

pub set_above-requires-2-clause-few : goal.set_above-requires-2-clause-few
set_above-requires-2-clause-few c =
    row_few c.args.indexed.now.bundle c.args.levels.0 (length c.args.lefts.now)
    (subst KeepsBundleRules c.bundle.ensures c.item_count-items.ensures.rules) c.requires.lefts

pub set_above-requires-2-clause-rows : goal.set_above-requires-2-clause-rows
set_above-requires-2-clause-rows c =
    agreed_count c.args.indexed.now.bundle c.args.levels.0 c.args.levels.1 (length c.args.lefts.now) c.args.lefts.now c.in_ok-rows.rows
    c.in_ok-rows.ensures c.requires.lefts

pub set_above-requires-2-clause-wide : goal.set_above-requires-2-clause-wide
set_above-requires-2-clause-wide c =
    agreed_wide c.args.indexed.now.bundle c.args.levels.0 c.args.levels.1 (length c.args.rights.now) c.args.lefts.now c.in_ok-rows.rows
    c.in_ok-rows.ensures c.requires.rights

pub returns : goal.returns
returns c =
    c.set_above-2.ensures
    ∙ agreed_above (closure_of c.args.indexed.now.bundle c.args.levels.1 c.args.levels.0) c.in_ok-rows.rows c.args.lefts.now c.args.rights.now
    c.in_ok-rows.ensures
