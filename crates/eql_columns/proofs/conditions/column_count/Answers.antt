use Rattle.std.proofs.Common.{arith}
use Rattle.level_items.specs.Levels.{items_at}
use Rattle.eql_columns.proofs.Tests.{column_long, has_column}
use Rattle.eql_columns.proofs.conditions.column_count.Goals as goal

pub column-requires-clause-level : goal.column-requires-clause-level
column-requires-clause-level c =
    (has_column c.args.config.now c.args.indexed.now.bundle c.args.place c.requires.fits c.requires.place).level

pub column-requires-clause-attribute : goal.column-requires-clause-attribute
column-requires-clause-attribute c =
    (has_column c.args.config.now c.args.indexed.now.bundle c.args.place c.requires.fits c.requires.place).attribute

pub returns : goal.returns
returns c =
    let long = column_long c.args.indexed.now.labels c.column.result.now c.args.place.attribute
    (items_at c.args.indexed.now.bundle.levels c.args.place.level) c.column.ensures in
    omega arith
