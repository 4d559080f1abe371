use Rattle.std.proofs.Common.{map, take}
use Rattle.std.specs.Prelude.{fold}
use Rattle.clap.specs.Words.{new_app, with_rule}
use Rattle.cli_words.specs.Inner.Apps.{IsApp}
use Rattle.cli_words.specs.Inner.Table.{taken_rule}
use Rattle.cli_words.proofs.command.subcommand.Given as goal

-- the subcommand with what it takes so far
abbrev pub invariant-loop-taken : goal.invariant-loop-taken
invariant-loop-taken l = IsApp (fold with_rule (new_app l.row.name.now) (map taken_rule (take l.taken-index l.takes))) l.command
