-- The table of subcommands, as what a parse reads of it.
use Rattle.std.specs.Prelude.{List, fold, map}
use Rattle.clap.specs.Words.{App, Rule, new_app, with_rule, with_subcommand}
use Rattle.cli_words.specs.declared.command.Row.{Row}
use Rattle.cli_words.specs.declared.command.Taken.{Taken}
use Rattle.cli_words.specs.declared.command.Taken.TheVariants as takes
use Rattle.cli_words.specs.Inner.Apps.{flag, option, positional}

-- the argument for what a subcommand takes
abbrev pub taken_rule : Taken → Rule
taken_rule (takes.Flag name) = flag name.now
taken_rule (takes.Value name) = option name.now
taken_rule (takes.Word name) = positional name.now

-- the subcommand of a row
abbrev pub row_app : Row → App
row_app row = fold with_rule (new_app row.name.now) (map taken_rule row.takes.now)

-- with the subcommands of these rows more
abbrev pub with_rows : App → List Row → App
with_rows app rows = fold (λ a row. with_subcommand a (row_app row).top) app rows
