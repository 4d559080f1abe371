use Rattle.std.proofs.Common.{Ok, length, refl, sym, ap, ◌∙◌}
use Rattle.eql_model.proofs.Between.{number_exit, rows_count}
use Rattle.eql_columns.proofs.Bits.{unset_wide}
use Rattle.eql_columns.proofs.positions.set_number_bits.Goals as goal

pub set_count_bits-requires : goal.set_count_bits-requires
set_count_bits-requires c =
    unset_wide _ _ c.args.row.now c.requires.unset refl
    ∙ sym (ap length c.in-Some.ensures ∙ rows_count c.args.indexed.now.bundle c.args.levels.1 c.args.levels.0)

pub returns-in-Some : goal.returns-in-Some
returns-in-Some c =
    number_exit c.args.indexed.now.bundle c.args.levels.0 c.args.levels.1 c.in-Some.rows.now c.args.compare c.args.number
    (Ok c.set_count_bits.new.made) c.in-Some.ensures c.set_count_bits.ensures

pub set_count_bits-requires-2 : goal.set_count_bits-requires-2
set_count_bits-requires-2 c =
    unset_wide _ _ c.args.row.now c.requires.unset refl
    ∙ sym (ap length c.in_ok-rows.ensures ∙ rows_count c.args.indexed.now.bundle c.args.levels.1 c.args.levels.0)

pub returns : goal.returns
returns c =
    number_exit c.args.indexed.now.bundle c.args.levels.0 c.args.levels.1 c.in_ok-rows.rows c.args.compare c.args.number
    (Ok c.set_count_bits-2.new.made) c.in_ok-rows.ensures c.set_count_bits-2.ensures
