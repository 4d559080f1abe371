use Rattle.std.proofs.Common.{length, refl, rules}
use Rattle.level_items.specs.Levels.{items_at}
use Rattle.eql_model.proofs.MadeRows.{no_item}
use Rattle.eql_columns.proofs.Bits.{unset_own, unset_wide}
use Rattle.eql_columns.proofs.Tests.{any_exit, is_match, wide_rows}
use Rattle.eql_columns.proofs.patterns.set_pattern_bits.Goals as goal

pub set_any-requires-clause-wide : goal.set_any-requires-clause-wide
set_any-requires-clause-wide c =
    wide_rows (is_match c.args.place.attribute) (items_at c.args.indexed.now.bundle.levels c.args.place.level) (length c.args.row.now)
    c.args.patterns.now c.as_slice.result.now (search (rules, c.as_slice.ensures, c.rows.view_is, c.in_ok-rows.ensures))
    (unset_wide _ _ c.args.row.now c.requires.unset refl)

pub set_any-requires-clause-unset : goal.set_any-requires-clause-unset
set_any-requires-clause-unset c = unset_own _ c.args.row.now c.requires.unset

pub returns : goal.returns
returns c =
    any_exit (is_match c.args.place.attribute) (items_at c.args.indexed.now.bundle.levels c.args.place.level) no_item (length c.args.row.now)
    c.args.patterns.now c.as_slice.result.now c.set_any.new.any
    (search (rules, c.as_slice.ensures, c.rows.view_is, c.in_ok-rows.ensures)) (unset_wide _ _ c.args.row.now c.requires.unset refl)
    c.set_any.ensures
