use Rattle.std.proofs.Common.{arith}
use Rattle.db_config.proofs.Tables.{rows_len, row_at, row_len, entry_at}
use Rattle.db_config.proofs.paths.entry.Goals as goal

pub get-requires : goal.get-requires
get-requires c =
    let len = rows_len c.args._defs.now c.args.count c.args.rows.now c.requires.rows in
    let within = c.requires.upper in
    omega arith

pub get-requires-2 : goal.get-requires-2
get-requires-2 c =
    let row = row_at c.args._defs.now c.args.count c.args.upper c.args.rows.now c.get.result.now c.requires.rows c.requires.upper c.get.ensures in
    let len = row_len c.args._defs.now c.args.count c.args.upper c.get.result.now row in
    let within = c.requires.lower in
    omega arith

pub returns : goal.returns
returns c =
    let row = row_at c.args._defs.now c.args.count c.args.upper c.args.rows.now c.get.result.now c.requires.rows c.requires.upper c.get.ensures in
    entry_at c.args._defs.now c.args.count c.args.upper c.args.lower c.get.result.now c.get-2.result.now row c.requires.lower c.get-2.ensures
