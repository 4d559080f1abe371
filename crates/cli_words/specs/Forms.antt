-- The command lines of the program: which words, behind the program's name, ask for what.
use Rattle.std.specs.Prelude.{ℕ, Bool, List, [], ◌∷◌, codes, find, Option, Some, None, option_map, option_and_then}
use Rattle.std.specs.Str.{bytes_eq}
use Rattle.emu_names.specs.declared.limits.TheConstants.{BUNDLES, TOP_RATE}
use Rattle.cli_words.specs.declared.words.TheConstants.{WORKERS, WORKERS_UNASKED}
use Rattle.cli_words.specs.declared.words.Words.{Words}
use Rattle.cli_words.specs.declared.words.Words.TheVariants as forms
use Rattle.cli_words.specs.Lines.{Form, Text, given_by, is_true, value_of}
use Rattle.cli_words.specs.Numbers.{number_in, number_of}

-- a command line: the command's name, what it takes, and what the values under these names ask for
pub record CommandLine : Type 0 where
  pub name : Text
  pub form : Form
  pub asks : (Text → Option Text) → Option Words

-- a form of positional words alone
abbrev pub only : List Text → Form
only positionals = record { flags = []; options = []; positionals = positionals }

-- `run [--store]`
abbrev pub run : CommandLine
run = record {
  name = codes "run";
  form = record { flags = codes "store" ∷ []; options = []; positionals = [] };
  asks = λ value. Some (forms.Run (is_true (value (codes "store"))));
}

-- how many workers the text asks for, if any: 1 to 8, and 4 where there is no text
abbrev pub workers_by : Option Text → Option ℕ
workers_by None = Some WORKERS_UNASKED
workers_by (Some text) = number_in 1 WORKERS text

-- `live [--store] [--workers N]`
abbrev pub live : CommandLine
live = record {
  name = codes "live";
  form = record { flags = codes "store" ∷ []; options = codes "workers" ∷ []; positionals = [] };
  asks = λ value. option_map (λ workers. forms.Live (is_true (value (codes "store"))) workers)
      (workers_by (value (codes "workers")));
}

-- `ask EQL [--time LEVEL]`
abbrev pub ask : CommandLine
ask = record {
  name = codes "ask";
  form = record { flags = []; options = codes "time" ∷ []; positionals = codes "eql" ∷ [] };
  asks = λ value. option_map (λ eql. forms.Ask eql (value (codes "time"))) (value (codes "eql"));
}

-- `load NAME`
abbrev pub load : CommandLine
load = record {
  name = codes "load";
  form = only (codes "name" ∷ []);
  asks = λ value. option_map (λ name. forms.Load name) (value (codes "name"));
}

-- a session, a bundle, a rate and a file, where all four are there
abbrev pub import_of : Option Text → Option Text → Option ℕ → Option Text → Option Words
import_of (Some session) (Some bundle) (Some rate) (Some file) = Some (forms.Import session bundle rate file)
import_of session bundle rate file = None

-- `import SESSION BUNDLE RATE FILE`, at a rate of 1 to 1,000,000 samples a second
abbrev pub import : CommandLine
import = record {
  name = codes "import";
  form = only (codes "session" ∷ codes "bundle" ∷ codes "rate" ∷ codes "file" ∷ []);
  asks = λ value. import_of (value (codes "session")) (value (codes "bundle"))
      (option_and_then (number_in 1 TOP_RATE) (value (codes "rate"))) (value (codes "file"));
}

-- a session and a bundle, where both are there
abbrev pub bundle_of : (Text → Text → Words) → Option Text → Option Text → Option Words
bundle_of words (Some session) (Some bundle) = Some (words session bundle)
bundle_of words session bundle = None

-- `export SESSION BUNDLE`
abbrev pub export : CommandLine
export = record {
  name = codes "export";
  form = only (codes "session" ∷ codes "bundle" ∷ []);
  asks = λ value. bundle_of (λ session bundle. forms.Export session bundle)
      (value (codes "session")) (value (codes "bundle"));
}

-- `textgrid SESSION BUNDLE`
abbrev pub textgrid : CommandLine
textgrid = record {
  name = codes "textgrid";
  form = only (codes "session" ∷ codes "bundle" ∷ []);
  asks = λ value. bundle_of (λ session bundle. forms.TextGrid session bundle)
      (value (codes "session")) (value (codes "bundle"));
}

-- `history`
abbrev pub history : CommandLine
history = record { name = codes "history"; form = only []; asks = λ value. Some forms.History }

-- `config`
abbrev pub config : CommandLine
config = record { name = codes "config"; form = only []; asks = λ value. Some forms.Config }

-- a number and a number of bundles, where both are there
abbrev pub work_of : Option ℕ → Option ℕ → Option Words
work_of (Some number) (Some bundles) = Some (forms.Work number bundles)
work_of number bundles = None

-- `work NUMBER BUNDLES`: a number below 2^64, and 1 to 10,000 bundles
abbrev pub work : CommandLine
work = record {
  name = codes "work";
  form = only (codes "number" ∷ codes "bundles" ∷ []);
  asks = λ value. work_of (option_and_then number_of (value (codes "number")))
      (option_and_then (number_in 1 BUNDLES) (value (codes "bundles")));
}

-- the command lines of the program
abbrev pub command_lines : List CommandLine
command_lines = run ∷ live ∷ ask ∷ load ∷ import ∷ export ∷ textgrid ∷ history ∷ config ∷ work ∷ []

-- what words ask a command for
abbrev pub asked_of : CommandLine → List Text → Option Words
asked_of line words = option_and_then (λ given. line.asks (value_of given)) (given_by line.form words)

-- What words ask for; there is nothing exactly where they are no command line. The first word names a command, and the
-- others give what this takes.
abbrev pub words_of : List Text → Option Words
words_of [] = None
words_of (name ∷ words) =
    option_and_then (λ line. asked_of line words) (find (λ line. bytes_eq name line.name) command_lines)
