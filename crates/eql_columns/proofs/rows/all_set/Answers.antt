use Rattle.std.proofs.Common.{map, ap, ◌∙◌}
use Rattle.std.specs.Prelude.{not}
use Rattle.eql_columns.proofs.Bits.{turned_none}
use Rattle.eql_columns.proofs.rows.all_set.Goals as goal

pub returns : goal.returns
returns c = c.turn.ensures ∙ ap (map not) c.in_ok-row.ensures ∙ turned_none c.args.count
