-- The clap command of the program, as what a parse reads of it.
use Rattle.std.specs.Prelude.{◌≡◌, Bool, true, false, List, [], ◌∷◌, ◌++◌, Option, Some, codes, fold, map}
use Rattle.clap.specs.Words.{App, Rule, app_of, new_app, new_rule, with_rule, with_subcommand}
use Rattle.clap.specs.declared.builder.command.Command.TheViews.{out-Command as fields_of}
use Rattle.clap.specs.declared.builder.command.Command.{Command}
use Rattle.clap.specs.declared.builder.action.ArgAction.TheVariants.{Set, SetTrue}
use Rattle.cli_words.specs.Lines.{Form, Text}
use Rattle.cli_words.specs.Forms.{CommandLine, command_lines}

-- `--name`
abbrev pub flag : Text → Rule
flag name = record (new_rule name) { long = Some name; action = Some SetTrue }

-- `--name VALUE`
abbrev pub option : Text → Rule
option name = record (new_rule name) { long = Some name; action = Some Set }

-- a positional word, which has to be there
abbrev pub positional : Text → Rule
positional name = record (new_rule name) { action = Some Set; required = true }

-- what a form takes
abbrev pub rules_of : Form → List Rule
rules_of form = map flag form.flags ++ map option form.options ++ map positional form.positionals

-- the subcommand of a command line
abbrev pub leaf : CommandLine → App
leaf line = fold with_rule (new_app line.name) (rules_of line.form)

-- the command without subcommands: it wants one, and has no help and no version
abbrev pub bare : App
bare = record {
  top = record (new_app (codes "emu")).top {
    no_binary_name = true;
    disable_help_flag = true;
    disable_help_subcommand = true;
    disable_version_flag = true;
    subcommand_required = true;
  };
  subs = [];
}

-- with these subcommands more
abbrev pub with_lines : App → List CommandLine → App
with_lines app lines = fold (λ a line. with_subcommand a (leaf line).top) app lines

-- the whole command
abbrev pub emu : App
emu = with_lines bare command_lines

-- a command of this app, with no argument for all its subcommands
pub record IsApp (app : App) (command : Command) : Type 0 where
  pub same : app_of command ≡ app
  pub own : (fields_of command).has_globals ≡ false
