use Rattle.std.proofs.Common.{length, subst, refl}
use Rattle.std.proofs.lemmas.Result.{on_ok_weaker}
use Rattle.bundle_state.specs.Valid.{KeepsBundleRules}
use Rattle.eql_columns.proofs.Bits.{unset_own, unset_wide}
use Rattle.eql_columns.proofs.Standing.{passed_row, width_at}
use Rattle.eql_columns.proofs.positions.set_position_bits.Goals as goal

pub set_place_bits-requires-clause-wide : goal.set_place_bits-requires-clause-wide
set_place_bits-requires-clause-wide c =
    width_at c.args.indexed.now.bundle c.args.levels.0 c.args.levels.1 c.in-Some.rows.now (length c.args.row.now) c.in-Some.ensures
    (unset_wide _ _ c.args.row.now c.requires.unset refl)

pub set_place_bits-requires-clause-unset : goal.set_place_bits-requires-clause-unset
set_place_bits-requires-clause-unset c = unset_own _ c.args.row.now c.requires.unset

pub returns-in-Some : goal.returns-in-Some
returns-in-Some c =
    on_ok_weaker c.set_place_bits.result
    (passed_row c.args.indexed.now.bundle c.args.levels.0 c.args.levels.1 _ c.in-Some.rows.now c.args.place c.args.wanted c.args.row.now
    c.set_place_bits.new.passed (subst KeepsBundleRules c.bundle-bundle.ensures c.item_count-items.ensures.rules).apart c.in-Some.ensures
    c.requires.unset refl)
    c.set_place_bits.ensures

pub set_place_bits-requires-2-clause-wide : goal.set_place_bits-requires-2-clause-wide
set_place_bits-requires-2-clause-wide c =
    width_at c.args.indexed.now.bundle c.args.levels.0 c.args.levels.1 c.in_ok-rows.rows (length c.args.row.now) c.in_ok-rows.ensures
    (unset_wide _ _ c.args.row.now c.requires.unset refl)

pub set_place_bits-requires-2-clause-unset : goal.set_place_bits-requires-2-clause-unset
set_place_bits-requires-2-clause-unset c = unset_own _ c.args.row.now c.requires.unset

pub returns : goal.returns
returns c =
    on_ok_weaker c.set_place_bits-2.result
    (passed_row c.args.indexed.now.bundle c.args.levels.0 c.args.levels.1 _ c.in_ok-rows.rows c.args.place c.args.wanted c.args.row.now
    c.set_place_bits-2.new.passed (subst KeepsBundleRules c.bundle-bundle.ensures c.item_count-items.ensures.rules).apart c.in_ok-rows.ensures
    c.requires.unset refl)
    c.set_place_bits-2.ensures
