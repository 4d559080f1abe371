-- The numbers that words name are in their ranges.
use Rattle.std.proofs.Common.{◌≡◌, ◌≤◌, ◌<◌, ◌^◌, ◌&&◌, ℕ, Bool, true, false, cond, List, [], ◌∷◌, Option, Some, None, Result, Ok, Err, IfOk, refl, sym, subst, arith, nat_le}
use Rattle.std.specs.Prelude.{codes, nat_lt, option_and_then, option_map}
use Rattle.std.specs.Str.Parse.{digits_value}
use Rattle.std.proofs.lemmas.Bool.{and_parts, leb-true, ltb-true}
use Rattle.emu_names.specs.declared.limits.TheConstants.{BUNDLES, TOP_RATE}
use Rattle.cli_words.specs.declared.words.TheConstants.{WORKERS, WORKERS_UNASKED}
use Rattle.cli_words.specs.declared.words.Words.{Words}
use Rattle.cli_words.specs.declared.words.Words.TheVariants as forms
use Rattle.cli_words.specs.declared.words.WordsFault.{WordsFault}
use Rattle.cli_words.specs.declared.words.WordsFault.TheVariants as faults
use Rattle.cli_words.specs.Numbers.{between, is_number, number_in, number_of}
use Rattle.cli_words.specs.Lines.{Given, Text, given_by, is_true, value_of}
use Rattle.cli_words.specs.Forms.{CommandLine, ask, asked_of, bundle_of, command_lines, config, export, history, import, import_of, live, load, run, textgrid, words_of, work, work_of, workers_by}
use Rattle.cli_words.specs.Inner.Gives.{IsInRange, ReadsWords}
use Rattle.cli_words.proofs.Top.{Each, find_line, found_has}

-- what is asked for, if anything is, is in range
abbrev Fits : Option Words → Type 0
Fits None = Unit {0}
Fits (Some words) = IsInRange words

abbrev Among : ℕ → ℕ → Option ℕ → Type 0
Among low high None = Unit {0}
Among low high (Some n) = (low ≤ n) × (n ≤ high)

among : (low high n : ℕ) (b : Bool) → (nat_le low n && nat_le n high) ≡ b → Among low high (cond b (Some n) None)
among low high n true e =
    let both = and_parts (nat_le low n) (nat_le n high) e in (leb-true low n both.0, leb-true n high both.1)
among low high n false e = tt

numbers : (low high : ℕ) (n : Option ℕ) → Among low high (between low high n)
numbers low high None = tt
numbers low high (Some n) = among low high n (nat_le low n && nat_le n high) refl

number_among : (low high : ℕ) (text : Option Text) → Among low high (option_and_then (number_in low high) text)
number_among low high None = tt
number_among low high (Some text) = numbers low high (number_of text)

abbrev Below : Option ℕ → Type 0
Below None = Unit {0}
Below (Some n) = n < 2 ^ 64

below : (text : Text) (b : Bool) → (is_number text && nat_lt (digits_value 10 text) (2 ^ 64)) ≡ b → Below (cond b (Some (digits_value 10 text)) None)
below text true e = ltb-true (digits_value 10 text) (2 ^ 64) (and_parts (is_number text) (nat_lt (digits_value 10 text) (2 ^ 64)) e).1
below text false e = tt

number_below : (text : Option Text) → Below (option_and_then number_of text)
number_below None = tt
number_below (Some text) = below text _ refl

-- what a command line asks for is in range
abbrev AsksInRange : CommandLine → Type 0
AsksInRange line = (value : Text → Option Text) → Fits (line.asks value)

live_fits : AsksInRange live
live_fits value = go (value (codes "workers"))
  where
    by : (n : Option ℕ) → Among 1 WORKERS n → Fits (option_map (λ workers. forms.Live (is_true (value (codes "store"))) workers) n)
    by None h = tt
    by (Some n) h = h

    go : (text : Option Text) → Fits (option_map (λ workers. forms.Live (is_true (value (codes "store"))) workers) (workers_by text))
    go None = by (Some WORKERS_UNASKED) (omega arith, omega arith)
    go (Some text) = by (number_in 1 WORKERS text) (number_among 1 WORKERS (Some text))

ask_fits : AsksInRange ask
ask_fits value = go (value (codes "eql"))
  where
    go : (eql : Option Text) → Fits (option_map (λ eql. forms.Ask eql (value (codes "time"))) eql)
    go None = tt
    go (Some eql) = tt

load_fits : AsksInRange load
load_fits value = go (value (codes "name"))
  where
    go : (name : Option Text) → Fits (option_map (λ name. forms.Load name) name)
    go None = tt
    go (Some name) = tt

import_fits : AsksInRange import
import_fits value = go (value (codes "session")) (value (codes "bundle")) _ (value (codes "file")) (number_among 1 TOP_RATE (value (codes "rate")))
  where
    go : (s b : Option Text) (r : Option ℕ) (f : Option Text) → Among 1 TOP_RATE r → Fits (import_of s b r f)
    go None b r f h = tt
    go (Some s) None r f h = tt
    go (Some s) (Some b) None f h = tt
    go (Some s) (Some b) (Some r) None h = tt
    go (Some s) (Some b) (Some r) (Some f) h = h

bundle_fits : (words : Text → Text → Words) → ((s b : Text) → IsInRange (words s b)) → (s b : Option Text) → Fits (bundle_of words s b)
bundle_fits words h None b = tt
bundle_fits words h (Some s) None = tt
bundle_fits words h (Some s) (Some b) = h s b

work_fits : AsksInRange work
work_fits value = go _ _ (number_below (value (codes "number"))) (number_among 1 BUNDLES (value (codes "bundles")))
  where
    go : (n b : Option ℕ) → Below n → Among 1 BUNDLES b → Fits (work_of n b)
    go None b h k = tt
    go (Some n) None h k = tt
    go (Some n) (Some b) h k = (h, k.0, k.1)

all_fit : Each AsksInRange command_lines
all_fit = (
  (λ value. tt),
  (
    live_fits,
    (
      ask_fits,
      (
        load_fits,
        (
          import_fits,
          (
            (λ value. bundle_fits _ (λ s b. tt) (value (codes "session")) (value (codes "bundle"))),
            (
              (λ value. bundle_fits _ (λ s b. tt) (value (codes "session")) (value (codes "bundle"))),
              ((λ value. tt), ((λ value. tt), (work_fits, tt))),
            ),
          ),
        ),
      ),
    ),
  ),
)

asked_fits : (line : CommandLine) → AsksInRange line → (given : Option (List Given)) → Fits (option_and_then (λ g. line.asks (value_of g)) given)
asked_fits line h None = tt
asked_fits line h (Some given) = h (value_of given)

words_fit : (words : List Text) → Fits (words_of words)
words_fit [] = tt
words_fit (w ∷ ws) = go (find_line w command_lines) refl
  where
    go : (o : Option CommandLine) → find_line w command_lines ≡ o → Fits (option_and_then (λ line. asked_of line ws) o)
    go None e = tt
    go (Some line) e = asked_fits line (found_has AsksInRange w command_lines all_fit line e).0 (given_by line.form ws)

-- what is read of words is in range
pub in_range : (words : List Text) (r : Result Words WordsFault) → ReadsWords r (words_of words) → IfOk r IsInRange
in_range words (Ok asked) h = subst Fits h (words_fit words)
in_range words (Err faults.Usage) h = tt
in_range words (Err faults.Memory) h = tt
