use Rattle.std.proofs.Common.{length, sym, ap, subst, ◌∙◌}
use Rattle.db_config.specs.Above.{is_above}
use Rattle.bundle_state.specs.Valid.{KeepsBundleRules}
use Rattle.hier_closure.specs.Dominance.{closure_of}
use Rattle.eql_match.specs.Inner.Found.{with_below}
use Rattle.eql_match.proofs.ByRows.{above_long, put_together}
use Rattle.eql_match.proofs.Agreed.{agreed_below, agreed_count, agreed_wide}
use Rattle.eql_match.proofs.RowsBetween.{only_above, rows_are, all_wide, row_few}
use Rattle.eql_match.proofs.found.add_below_right.Goals as goal

pub returns-then-not-is_above : goal.returns-then-not-is_above
returns-then-not-is_above c =
    only_above c.args.indexed.now.bundle c.args.levels.1 c.args.levels.0 (closure_of c.args.indexed.now.bundle c.args.levels.1 c.args.levels.0)
    c.args.lefts.now c.args.rights.now c.args.made.now (subst KeepsBundleRules c.bundle.ensures c.item_count-items.ensures.rules)
    (ap (λ defs. is_above defs c.args.levels.1 c.args.levels.0) c.requires.fits.definitions
    ∙ (sym c.is_above.ensures ∙ c.if-not-is_above.true))
    c.requires.above

pub add_below-requires-clause-few : goal.add_below-requires-clause-few
add_below-requires-clause-few c =
    row_few c.args.indexed.now.bundle c.args.levels.1 (length c.args.rights.now)
    (subst KeepsBundleRules c.bundle.ensures c.item_count-items.ensures.rules) c.requires.rights

pub add_below-requires-clause-rows : goal.add_below-requires-clause-rows
add_below-requires-clause-rows c =
    rows_are c.args.indexed.now.bundle c.args.levels.1 c.args.levels.0 (length c.args.rights.now) c.in-Some.rows.now c.in-Some.ensures c.requires.rights

pub add_below-requires-clause-wide : goal.add_below-requires-clause-wide
add_below-requires-clause-wide c =
    all_wide c.args.indexed.now.bundle c.args.levels.1 c.args.levels.0 (length c.args.lefts.now) c.in-Some.rows.now c.in-Some.ensures c.requires.lefts

pub add_below-requires-clause-long : goal.add_below-requires-clause-long
add_below-requires-clause-long c =
    ap length c.requires.above ∙ above_long (closure_of c.args.indexed.now.bundle c.args.levels.1 c.args.levels.0) c.args.lefts.now c.args.rights.now

pub returns-in-Some : goal.returns-in-Some
returns-in-Some c =
    put_together (closure_of c.args.indexed.now.bundle c.args.levels.1 c.args.levels.0) (closure_of c.args.indexed.now.bundle c.args.levels.0 c.args.levels.1)
    c.args.lefts.now c.args.rights.now c.args.made.now c.add_below.new.made c.requires.above
    (c.add_below.ensures ∙ ap (λ rows. with_below rows c.args.lefts.now c.args.rights.now c.args.made.now) c.in-Some.ensures)

pub add_below-requires-2-clause-few : goal.add_below-requires-2-clause-few
add_below-requires-2-clause-few c =
    row_few c.args.indexed.now.bundle c.args.levels.1 (length c.args.rights.now)
    (subst KeepsBundleRules c.bundle.ensures c.item_count-items.ensures.rules) c.requires.rights

pub add_below-requires-2-clause-rows : goal.add_below-requires-2-clause-rows
add_below-requires-2-clause-rows c =
    agreed_count c.args.indexed.now.bundle c.args.levels.1 c.args.levels.0 (length c.args.rights.now) c.args.rights.now c.in_ok-rows.rows
    c.in_ok-rows.ensures c.requires.rights

pub add_below-requires-2-clause-wide : goal.add_below-requires-2-clause-wide
add_below-requires-2-clause-wide c =
    agreed_wide c.args.indexed.now.bundle c.args.levels.1 c.args.levels.0 (length c.args.lefts.now) c.args.rights.now c.in_ok-rows.rows
    c.in_ok-rows.ensures c.requires.lefts

pub add_below-requires-2-clause-long : goal.add_below-requires-2-clause-long
add_below-requires-2-clause-long c =
    ap length c.requires.above ∙ above_long (closure_of c.args.indexed.now.bundle c.args.levels.1 c.args.levels.0) c.args.lefts.now c.args.rights.now

pub returns : goal.returns
returns c =
    put_together (closure_of c.args.indexed.now.bundle c.args.levels.1 c.args.levels.0) (closure_of c.args.indexed.now.bundle c.args.levels.0 c.args.levels.1)
    c.args.lefts.now c.args.rights.now c.args.made.now c.add_below-2.new.made c.requires.above
    (c.add_below-2.ensures
    ∙ agreed_below (closure_of c.args.indexed.now.bundle c.args.levels.0 c.args.levels.1) c.in_ok-rows.rows c.args.lefts.now c.args.rights.now
    c.args.made.now c.in_ok-rows.ensures)
