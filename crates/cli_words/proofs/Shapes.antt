-- What building makes of a command line's subcommand.
use Rattle.std.proofs.Common.{◌≡◌, ◌+◌, ℕ, min, Bool, true, false, cond, List, [], ◌∷◌, Option, Some, None, refl}
use Rattle.std.specs.Prelude.{codes}
use Rattle.clap.specs.Lexer.{usize_max}
use Rattle.clap.specs.Walk.{Rule, arg_by_id, arg_by_index, arg_by_long, arg_by_short}
use Rattle.clap.specs.Simple.{Shape, built_leaf, filled, inherited, with_index}
use Rattle.cli_words.specs.Lines.{Form, Text, named}
use Rattle.cli_words.specs.Forms.{CommandLine}
use Rattle.cli_words.specs.Inner.Apps.{bare, flag, leaf, option, positional}

-- the built arguments
abbrev pub flag_rule : Text → Rule
flag_rule name = filled (flag name)

abbrev pub option_rule : Text → Rule
option_rule name = filled (option name)

abbrev pub positional_rule : Text → ℕ → Rule
positional_rule name k = with_index k (filled (positional name))

-- the built subcommand of a command line
abbrev pub shape : CommandLine → Shape
shape line = built_leaf (inherited bare.top (leaf line).top)

-- a flag, or else an option
abbrev pub rule_named : Option Text → Option Text → Option Rule
rule_named (Some name) option = Some (flag_rule name)
rule_named None (Some name) = Some (option_rule name)
rule_named None None = None

-- the positional words of these names stand from position k on
abbrev pub Positions : List Rule → ℕ → List Text → Type 0
Positions rules k [] = arg_by_index rules k ≡ None
Positions rules k (name ∷ names) = (arg_by_index rules k ≡ Some (positional_rule name k)) × (arg_by_id rules name ≡ Some (positional_rule name k))
    × Positions rules (min (k + 1) usize_max) names

-- the shape takes what the form says
pub record HasForm (s : Shape) (form : Form) : Type 0 where
  pub long : (name : Text) → arg_by_long s.rules name ≡ rule_named (named form.flags name) (named form.options name)
  pub id : (name found : Text) → named form.options name ≡ Some found → arg_by_id s.rules found ≡ Some (option_rule found)
  pub positions : Positions s.rules 1 form.positionals
  pub no_short : (x : ℕ) → arg_by_short s.rules x ≡ None
  pub once : s.args_override_self ≡ false
  pub leaf : s.is_leaf ≡ true
