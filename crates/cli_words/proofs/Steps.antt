-- A parse of a subcommand's words, one word after the other.
use Rattle.std.proofs.Common.{◌≡◌, ap, refl, ℕ, Bool, true, false, List, [], ◌∷◌, Option, Some, None}
use Rattle.std.specs.Prelude.{fold}
use Rattle.clap.specs.Kinds.{Kinds, or_else}
use Rattle.clap.specs.declared.error.kind.ErrorKind.{ErrorKind}
use Rattle.clap.specs.Walk.{Held, Row, Text, Waiting, Walk, finished, nothing_held, rows_after, settled, walk_from, walked, with_default}
use Rattle.clap.specs.Simple.{Shape}
use Rattle.clap.specs.Faults.{check_fault, defaults_fault, level_fault, settle_fault, turn_fault, walk_fault}
use Rattle.cli_words.specs.declared.words.Words.{Words}
use Rattle.cli_words.specs.Lines.{Given}
use Rattle.cli_words.proofs.Rows.{rows}

-- what is read where nothing is refused
abbrev pub unless : Kinds → Option Words → Option Words
unless [] read = read
unless (k ∷ ks) read = None

-- what is refused at the end of the words
abbrev pub end_fault : Shape → Held → Kinds
end_fault s h = or_else (settle_fault s.rules s.args_override_self h)
    (or_else (defaults_fault (settled s.rules h).rows s.rules) (check_fault s (finished s.rules h) false))

abbrev pub fault_from : Shape → Walk → List Text → Kinds
fault_from s w ws = or_else (walk_fault s [] w ws) (end_fault s (fold (walked s.rules []) w ws).held)

-- what is read from a place of the parse on
abbrev pub read_from : Shape → (List Row → Option Words) → Walk → List Text → Option Words
read_from s read w ws = unless (fault_from s w ws) (read (finished s.rules (fold (walked s.rules []) w ws).held))

-- what is read of all words
abbrev pub read_of : Shape → (List Row → Option Words) → List Text → Option Words
read_of s read ws = unless (level_fault s [] nothing_held ws false []) (read (rows_after s.rules [] ws))

pub begun : (s : Shape) (read : List Row → Option Words) (ws : List Text) → read_of s read ws ≡ read_from s read (walk_from nothing_held) ws
begun s read ws = refl

-- between two words, where nothing was met that ends the parse
abbrev pub at : Held → Waiting → ℕ → Walk
at h waiting k = record { held = h; waiting = waiting; position = k; is_trailing = false; stopped = None }

-- a word that is taken
pub step : (s : Shape) (read : List Row → Option Words) (w next : Walk) (x : Text) (ws : List Text) → turn_fault s [] w x ≡ []
    → walked s.rules [] w x ≡ next → read_from s read w (x ∷ ws) ≡ read_from s read next ws
unfolding walk_fault
step s read w next x ws fine to = rw fine (ap (λ (v : Walk). read_from s read v ws) to)

-- a word that is refused
pub stop : (s : Shape) (read : List Row → Option Words) (w : Walk) (x : Text) (ws : List Text) (k : ErrorKind) (ks : Kinds) → turn_fault s [] w x ≡ k ∷ ks
    → read_from s read w (x ∷ ws) ≡ None
unfolding walk_fault
stop s read w x ws k ks fault = rw fault refl

pub or_else_none : (ks : Kinds) → or_else ks [] ≡ ks
or_else_none [] = refl
or_else_none (k ∷ ks) = refl

-- what is read of the rows at the end is what the values ask for
abbrev pub EndsWell : Shape → (List Row → Option Words) → (List Given → Option Words) → Type 0
EndsWell s read ask = (given : List Given) →
    unless (or_else (defaults_fault (rows given) s.rules) (check_fault s (fold with_default (rows given) s.rules) false))
    (read (fold with_default (rows given) s.rules)) ≡ ask given
