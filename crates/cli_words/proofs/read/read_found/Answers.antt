use Rattle.std.proofs.Common.{◌≡◌, ap, subst}
use Rattle.std.specs.Box.{box_value}
use Rattle.clap.specs.Matches.{found_of}
use Rattle.clap.specs.Words.{rows_of}
use Rattle.clap.specs.declared.parser.matches.ArgMatches.TheViews.{out-ArgMatches, out-SubCommand}
use Rattle.cli_words.specs.Inner.Gives.{ReadsWords}
use Rattle.cli_words.specs.Inner.Readings.{read_found}
use Rattle.cli_words.proofs.Whole.{both}
use Rattle.cli_words.proofs.read.read_found.Goals as goal

pub returns-in-Some : goal.returns-in-Some
returns-in-Some c =
    let same = both (out-ArgMatches c.args.matches.now).subcommand (λ b. (out-SubCommand (box_value b)).name.now)
    (λ b. rows_of (found_of (out-SubCommand (box_value b)).matches)) c.in-Some.name.now (rows_of (found_of c.in-Some.matches.now))
    c.in-Some.ensures.name c.in-Some.ensures.rows in
    subst (λ found. ReadsWords c.read_named.result (read_found found)) same c.read_named.ensures
