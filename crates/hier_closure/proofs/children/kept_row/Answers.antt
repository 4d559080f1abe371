use Rattle.hier_closure.proofs.Tables.{within_table}
use Rattle.hier_closure.proofs.children.kept_row.Goals as goal

pub bounds-table-level : goal.bounds-table-level
bounds-table-level c = within_table c.args.table.now c.args.level c.args.position c.requires
