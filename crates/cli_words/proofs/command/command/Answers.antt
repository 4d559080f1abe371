use Rattle.std.proofs.Common.{arith, ◌∙◌}
use Rattle.cli_words.specs.Inner.Apps.{bare}
use Rattle.cli_words.proofs.Table.{all_rows, row_more}
use Rattle.cli_words.proofs.command.command.Goals as goal

pub loop-row-preserved : goal.loop-row-preserved
loop-row-preserved c =
    row_more bare c.rows-rows.result.now c.loop-row.row-index _ c.loop-row.command c.in_ok-command.command
    c.loop-row-test.true c.loop-row.invariant c.in_ok-command.ensures

pub returns : goal.returns
returns c = record {
  same = c.loop-row.invariant.same ∙ all_rows c.rows-rows.result.now c.loop-row.row-index (omega (arith, c.loop-row-test.false)) c.rows-rows.ensures;
  own = c.loop-row.invariant.own;
}
