use Rattle.eql_model.specs.Labels.{is_matched}
use Rattle.level_items.specs.Levels.{label_of, items_at}
use Rattle.eql_columns.proofs.Tests.{found_map, has_column}
use Rattle.eql_columns.proofs.conditions.set_patterns_pass.Goals as goal

pub set_pattern_bits-requires-clause-column : goal.set_pattern_bits-requires-clause-column
set_pattern_bits-requires-clause-column c = has_column c.args.config.now c.args.indexed.now.bundle c.args.place c.requires.fits c.requires.place

pub returns : goal.returns
returns c =
    found_map c.args.found (λ item. is_matched c.args.patterns.now (label_of c.args.place.attribute item))
    (items_at c.args.indexed.now.bundle.levels c.args.place.level) c.set_pattern_bits.new.row c.turn_unless.new.row c.in_ok-set_pattern_bits.ensures
    c.turn_unless.ensures
