-- Each command line, read by its subcommand.
use Rattle.std.proofs.Common.{◌≡◌, ◌∙◌, ◌&&◌, ◌||◌, ap, ap₂, sym, subst, refl, ℕ, Bool, true, false, not, cond, List, [], ◌∷◌, Option, Some, None, is_some}
use Rattle.std.specs.Prelude.{codes, option_and_then, option_map}
use Rattle.std.specs.Str.{bytes_eq}
use Rattle.clap.specs.Walk.{Rule, arg_by_id}
use Rattle.clap.specs.Simple.{Shape}
use Rattle.clap.specs.declared.error.kind.ErrorKind.TheVariants as kind
use Rattle.emu_names.specs.declared.limits.TheConstants.{BUNDLES, TOP_RATE}
use Rattle.cli_words.specs.declared.words.Words.{Words}
use Rattle.cli_words.specs.declared.words.Words.TheVariants as forms
use Rattle.cli_words.specs.Numbers.{number_in, number_of}
use Rattle.cli_words.specs.Lines.{Text, value_of}
use Rattle.cli_words.specs.Forms.{CommandLine, ask, asked_of, bundle_of, config, export, history, import, import_of, live, load, run, textgrid, work, work_of, workers_by}
use Rattle.cli_words.specs.Inner.Readings.{read_by}
use Rattle.cli_words.proofs.Behind.{behind}
use Rattle.cli_words.proofs.Looks.{Looks}
use Rattle.cli_words.proofs.Ends.{AreQuiet, WantsAll, ends_quietly, flag_fault_none, flag_found, option_quiet, other_found, positional_quiet}
use Rattle.cli_words.proofs.Rows.{rows}
use Rattle.cli_words.proofs.Shapes.{HasForm, flag_rule, option_rule, rule_named, shape}
use Rattle.cli_words.proofs.Steps.{EndsWell, read_of, unless}

-- a command line is read as it says
abbrev pub IsRead : CommandLine → Type 0
IsRead line = (words : List Text) → Looks words → read_of (shape line) (read_by line) words ≡ asked_of line words

-- its subcommand takes what it says, and no argument has a default
from_parts : (line : CommandLine) → HasForm (shape line) line.form → EndsWell (shape line) (read_by line) (λ given. line.asks (value_of given)) → IsRead line
from_parts line has ends = behind (shape line) line.form has (read_by line) (λ given. line.asks (value_of given)) ends

-- a value that is wanted
abbrev wanted : List (Option Text) → Bool
wanted [] = false
wanted (a ∷ rest) = not (is_some a) || wanted rest

abbrev unmissed : List (Option Text) → Option Words → Option Words
unmissed values read = unless (cond (wanted values) (kind.MissingRequiredArgument ∷ []) []) read

no_option : {P : Type 0} (found : Text) → ◌≡◌ {A = Option Text} None (Some found) → P
no_option found e = cc

one_option : (s : Shape) (name found : Text) (b : Bool) → arg_by_id s.rules name ≡ Some (option_rule name) → cond b (Some name) None ≡ Some found
    → arg_by_id s.rules found ≡ Some (option_rule found)
one_option s name found true is e =
    let same : name ≡ found = cc in
    subst (λ x. arg_by_id s.rules x ≡ Some (option_rule x)) same is
one_option s name found false is e = no_option found e

-- ---- positional words alone

load_form : HasForm (shape load) load.form
load_form = record { long = λ name. refl; id = λ name found e. no_option found e; positions = (refl, refl, refl); no_short = λ x. refl; once = refl; leaf = refl }

load_wants : WantsAll load
load_wants value = go (value (codes "name"))
  where
    go : (a : Option Text) → unmissed (a ∷ []) (option_map (λ name. forms.Load name) a) ≡ option_map (λ name. forms.Load name) a
    go None = refl
    go (Some a) = refl

pub load_read : IsRead load
load_read = from_parts load load_form (ends_quietly load (positional_quiet _ _, tt) load_wants (λ rs. refl))

import_form : HasForm (shape import) import.form
import_form = record {
  long = λ name. refl;
  id = λ name found e. no_option found e;
  positions = (refl, refl, (refl, refl, (refl, refl, (refl, refl, refl))));
  no_short = λ x. refl;
  once = refl;
  leaf = refl;
}

import_wants : WantsAll import
import_wants value = go (value (codes "session")) (value (codes "bundle")) (value (codes "rate")) (value (codes "file"))
  where
    rateless : (a b : Option Text) (r : Option ℕ) → import_of a b r None ≡ None
    rateless None b r = refl
    rateless (Some a) None r = refl
    rateless (Some a) (Some b) None = refl
    rateless (Some a) (Some b) (Some r) = refl

    go : (a b r f : Option Text) → unmissed (a ∷ b ∷ r ∷ f ∷ []) (import_of a b (option_and_then (number_in 1 TOP_RATE) r) f) ≡ import_of a b (option_and_then (number_in 1 TOP_RATE) r) f
    go None b r f = refl
    go (Some a) None r f = refl
    go (Some a) (Some b) None f = refl
    go (Some a) (Some b) (Some r) None = sym (rateless (Some a) (Some b) (number_in 1 TOP_RATE r))
    go (Some a) (Some b) (Some r) (Some f) = refl

pub import_read : IsRead import
import_read = from_parts import import_form
    (ends_quietly import (positional_quiet _ _, (positional_quiet _ _, (positional_quiet _ _, (positional_quiet _ _, tt)))) import_wants (λ rs. refl))

bundle_wants : (words : Text → Text → Words) (a b : Option Text) → unmissed (a ∷ b ∷ []) (bundle_of words a b) ≡ bundle_of words a b
bundle_wants words None b = refl
bundle_wants words (Some a) None = refl
bundle_wants words (Some a) (Some b) = refl

export_form : HasForm (shape export) export.form
export_form = record {
  long = λ name. refl;
  id = λ name found e. no_option found e;
  positions = (refl, refl, (refl, refl, refl));
  no_short = λ x. refl;
  once = refl;
  leaf = refl;
}

pub export_read : IsRead export
export_read = from_parts export export_form (ends_quietly export (positional_quiet _ _, (positional_quiet _ _, tt))
    (λ value. bundle_wants (λ session bundle. forms.Export session bundle) (value (codes "session")) (value (codes "bundle"))) (λ rs. refl))

textgrid_form : HasForm (shape textgrid) textgrid.form
textgrid_form = record {
  long = λ name. refl;
  id = λ name found e. no_option found e;
  positions = (refl, refl, (refl, refl, refl));
  no_short = λ x. refl;
  once = refl;
  leaf = refl;
}

pub textgrid_read : IsRead textgrid
textgrid_read = from_parts textgrid textgrid_form (ends_quietly textgrid (positional_quiet _ _, (positional_quiet _ _, tt))
    (λ value. bundle_wants (λ session bundle. forms.TextGrid session bundle) (value (codes "session")) (value (codes "bundle"))) (λ rs. refl))

history_form : HasForm (shape history) history.form
history_form = record { long = λ name. refl; id = λ name found e. no_option found e; positions = refl; no_short = λ x. refl; once = refl; leaf = refl }

pub history_read : IsRead history
history_read = from_parts history history_form (ends_quietly history tt (λ value. refl) (λ rs. refl))

config_form : HasForm (shape config) config.form
config_form = record { long = λ name. refl; id = λ name found e. no_option found e; positions = refl; no_short = λ x. refl; once = refl; leaf = refl }

pub config_read : IsRead config
config_read = from_parts config config_form (ends_quietly config tt (λ value. refl) (λ rs. refl))

work_form : HasForm (shape work) work.form
work_form = record {
  long = λ name. refl;
  id = λ name found e. no_option found e;
  positions = (refl, refl, (refl, refl, refl));
  no_short = λ x. refl;
  once = refl;
  leaf = refl;
}

work_wants : WantsAll work
work_wants value = go (value (codes "number")) (value (codes "bundles"))
  where
    bundleless : (n : Option ℕ) → work_of n None ≡ None
    bundleless None = refl
    bundleless (Some n) = refl

    go : (n b : Option Text) → unmissed (n ∷ b ∷ []) (work_of (option_and_then number_of n) (option_and_then (number_in 1 BUNDLES) b))
        ≡ work_of (option_and_then number_of n) (option_and_then (number_in 1 BUNDLES) b)
    go None b = refl
    go (Some n) None = sym (bundleless (number_of n))
    go (Some n) (Some b) = refl

pub work_read : IsRead work
work_read = from_parts work work_form (ends_quietly work (positional_quiet _ _, (positional_quiet _ _, tt)) work_wants (λ rs. refl))

-- ---- with an option

ask_form : HasForm (shape ask) ask.form
ask_form = record {
  long = λ name. go (bytes_eq (codes "time") name);
  id = λ name found e. one_option (shape ask) (codes "time") found (bytes_eq (codes "time") name) refl e;
  positions = (refl, refl, refl);
  no_short = λ x. refl;
  once = refl;
  leaf = refl;
}
  where
    go : (b : Bool) → cond (b || false) (Some (option_rule (codes "time"))) None ≡ rule_named None (cond b (Some (codes "time")) None)
    go true = refl
    go false = refl

ask_wants : WantsAll ask
ask_wants value = go (value (codes "eql"))
  where
    go : (a : Option Text) → unmissed (a ∷ []) (option_map (λ eql. forms.Ask eql (value (codes "time"))) a) ≡ option_map (λ eql. forms.Ask eql (value (codes "time"))) a
    go None = refl
    go (Some a) = refl

pub ask_read : IsRead ask
ask_read = from_parts ask ask_form (ends_quietly ask (option_quiet _, (positional_quiet _ _, tt)) ask_wants (λ rs. refl))

-- ---- with a flag

run_form : HasForm (shape run) run.form
run_form = record {
  long = λ name. go (bytes_eq (codes "store") name);
  id = λ name found e. no_option found e;
  positions = refl;
  no_short = λ x. refl;
  once = refl;
  leaf = refl;
}
  where
    go : (b : Bool) → cond (b || false) (Some (flag_rule (codes "store"))) None ≡ rule_named (cond b (Some (codes "store")) None) None
    go true = refl
    go false = refl

pub run_read : IsRead run
run_read = from_parts run run_form (λ given.
    rw (flag_fault_none (codes "store") [] tt (rows given)) (ap (λ b. Some (forms.Run b)) (flag_found (codes "store") [] tt given)))

live_form : HasForm (shape live) live.form
live_form = record {
  long = λ name. go (bytes_eq (codes "store") name) (bytes_eq (codes "workers") name);
  id = λ name found e. one_option (shape live) (codes "workers") found (bytes_eq (codes "workers") name) refl e;
  positions = refl;
  no_short = λ x. refl;
  once = refl;
  leaf = refl;
}
  where
    go : (b c : Bool) → cond (b || false) (Some (flag_rule (codes "store"))) (cond (c || false) (Some (option_rule (codes "workers"))) None)
        ≡ rule_named (cond b (Some (codes "store")) None) (cond c (Some (codes "workers")) None)
    go true c = refl
    go false true = refl
    go false false = refl

abbrev live_options : List Rule
live_options = option_rule (codes "workers") ∷ []

pub live_read : IsRead live
live_read = from_parts live live_form (λ given.
    rw (flag_fault_none (codes "store") live_options (option_quiet _, tt) (rows given))
    (ap₂ (λ b w. option_map (λ workers. forms.Live b workers) (workers_by w)) (flag_found (codes "store") live_options (option_quiet _, tt) given)
    (other_found (codes "store") live_options (option_quiet _, tt) given (codes "workers") refl)))
