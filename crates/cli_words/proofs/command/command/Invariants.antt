use Rattle.std.proofs.Common.{take}
use Rattle.cli_words.specs.Inner.Apps.{IsApp, bare}
use Rattle.cli_words.specs.Inner.Table.{with_rows}
use Rattle.cli_words.proofs.command.command.Given as goal

-- the command with the rows so far
abbrev pub invariant-loop-row : goal.invariant-loop-row
invariant-loop-row l = IsApp (with_rows bare (take l.row-index l.rows)) l.command
