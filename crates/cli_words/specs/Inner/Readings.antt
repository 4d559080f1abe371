-- What is read of the rows that a parse finds.
use Rattle.std.specs.Prelude.{◌≡◌, ⊤, Bool, List, codes, find, Option, None, Some, option_and_then, Result, Ok, Err}
use Rattle.std.specs.Str.{bytes_eq}
use Rattle.clap.specs.Words.{Row, Text, first_of}
use Rattle.cli_words.specs.declared.words.Words.{Words}
use Rattle.cli_words.specs.declared.words.WordsFault.{WordsFault}
use Rattle.cli_words.specs.declared.words.WordsFault.TheVariants as faults
use Rattle.cli_words.specs.Forms.{CommandLine, bundle_of, command_lines}

-- the word `--`, with which options end where it is read
abbrev pub ends_options : Text → Bool
ends_options word = bytes_eq word (codes "--")

-- what a command line asks for with the values of these rows
abbrev pub read_by : CommandLine → List Row → Option Words
read_by line rows = line.asks (λ name. first_of name rows)

-- what the command line of this name asks for with them
abbrev pub read_named : Text → List Row → Option Words
read_named name rows = option_and_then (λ line. read_by line rows) (find (λ line. bytes_eq name line.name) command_lines)

-- what the subcommand that was found asks for
abbrev pub read_found : Option (Text × List Row) → Option Words
read_found = option_and_then (λ p. read_named p.0 p.1)

-- the two texts, where both are there
abbrev pub IsPair : Result (Text × Text) WordsFault → Option Text → Option Text → Type 0
IsPair (Ok pair) first second = (first ≡ Some pair.0) × (second ≡ Some pair.1)
IsPair (Err faults.Usage) first second = (words : Text → Text → Words) → bundle_of words first second ≡ None
IsPair (Err faults.Memory) first second = ⊤
