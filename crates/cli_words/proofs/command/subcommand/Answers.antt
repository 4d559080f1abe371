use Rattle.clap.specs.Words.{new_app}
use Rattle.cli_words.proofs.Table.{taken_more}
use Rattle.cli_words.proofs.command.subcommand.Goals as goal

pub loop-taken-preserved : goal.loop-taken-preserved
loop-taken-preserved c =
    taken_more (new_app c.args.row.now.name.now) c.args.row.now.takes.now c.loop-taken.taken-index _ c.loop-taken.command c.in_ok-command.command
    c.loop-taken-test.true c.loop-taken.invariant c.in_ok-command.ensures
