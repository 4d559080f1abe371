-- Lines that come in order: their numbers rise, so that no two turns of a session are of one line.
use Rattle.std.proofs.Common.{◌≡◌, ℕ, zero, suc, ◌<◌, ◌≤◌, Bool, true, false, cond, List, [], ◌∷◌, ◌++◌, filter, arith}
use Rattle.session_core.specs.declared.line.Line.{Line}
use Rattle.session_core.specs.InOrder.{ComeInOrder, IsBelow}
use Rattle.session_core.specs.Steps.{session_places}
use Rattle.session_core.specs.Worlds.{Turn, Each}
use Rattle.session_core.specs.Legal.{lines_in, of_session}
use Rattle.session_core.proofs.Turns.{each_filter, each_map, each_of_map}
use Rattle.live_laws.specs.Lanes.{grouped_from}
use Rattle.live_laws.proofs.Eaches.{each_append, each_last, each_left}
use Rattle.live_laws.proofs.Grouping.{IsFrom, IsOf, all_from, own}
use Rattle.live_laws.proofs.Marks.{IsElsewhere, TurnsApart}

-- a line's number is over this one
abbrev pub IsLater : ℕ → Line → Type 0
IsLater line l = line < l.line

-- the numbers of lines rise
abbrev pub Rises : List Line → Type 0
Rises [] = Unit {0}
Rises (l ∷ ls) = Each (IsLater l.line) ls × Rises ls

-- a number that is over those of all these lines is over this one
abbrev Covers : ℕ → List Line → Type 0
Covers line before = (other : ℕ) → Each (IsBelow other) before → line < other

all_later : (line : ℕ) (before ls : List Line) → Covers line before → ComeInOrder before ls → Each (IsLater line) ls
all_later line before [] covers come = tt
all_later line before (l ∷ ls) covers come = (
  covers l.line come.0.rises,
  all_later line (before ++ l ∷ []) ls (λ other each. covers other (each_left (IsBelow other) before (l ∷ []) each)) come.1,
)

pub come_rising : (before ls : List Line) → ComeInOrder before ls → Rises ls
come_rising before [] come = tt
come_rising before (l ∷ ls) come = (
  all_later l.line (before ++ l ∷ []) ls (λ other each. each_last (IsBelow other) before l each) come.1,
  come_rising (before ++ l ∷ []) ls come.1,
)

pub come_placed : (before ls : List Line) → ComeInOrder before ls → Each (λ (l : Line). l.session.0 < session_places) ls
come_placed before [] come = tt
come_placed before (l ∷ ls) come = (come.0.place, come_placed (before ++ l ∷ []) ls come.1)

rises_cond : (b : Bool) (l : Line) (rest : List Line) → Each (IsLater l.line) rest → Rises rest → Rises (cond b (l ∷ rest) rest)
rises_cond true l rest later rises = (later, rises)
rises_cond false l rest later rises = rises

pub rises_filter : (test : Line → Bool) (ls : List Line) → Rises ls → Rises (filter test ls)
rises_filter test [] rises = tt
rises_filter test (l ∷ ls) rises =
    rises_cond (test l) l (filter test ls) (each_filter (IsLater l.line) test ls rises.0) (rises_filter test ls rises.1)

-- Turns of lines apart.

pub rising_apart : (ts : List Turn) → Rises (lines_in ts) → TurnsApart ts
rising_apart [] rises = tt
rising_apart (t ∷ ts) rises = (
  each_map (λ (u : Turn). IsLater t.line.line u.line) (IsElsewhere t.line)
      (λ u later session same. let low : t.line.line < u.line.line = later in absurd (omega arith)) ts
      (each_of_map (IsLater t.line.line) (λ (u : Turn). u.line) ts rises.0),
  rising_apart ts rises.1,
)

apart_append : (xs ys : List Turn) → TurnsApart xs → TurnsApart ys → Each (λ x. Each (IsElsewhere x.line) ys) xs → TurnsApart (xs ++ ys)
apart_append [] ys here there each = there
apart_append (x ∷ xs) ys here there each = (each_append (IsElsewhere x.line) xs ys here.0 each.0, apart_append xs ys here.1 there each.1)

pub grouped_apart : (s count : ℕ) (ts : List Turn) → ((k : ℕ) → TurnsApart (of_session k ts)) → TurnsApart (grouped_from s count ts)
grouped_apart s zero ts apart = tt
grouped_apart s (suc count) ts apart =
    apart_append (of_session s ts) (grouped_from (suc s) count ts) (apart s) (grouped_apart (suc s) count ts apart)
    (each_map (IsOf s) (λ x. Each (IsElsewhere x.line) (grouped_from (suc s) count ts))
    (λ x is. each_map (IsFrom (suc s)) (IsElsewhere x.line)
    (λ y from session same. let here : x.line.session.0 ≡ s = is in let low : suc s ≤ y.line.session.0 = from in absurd (omega arith))
    (grouped_from (suc s) count ts) (all_from (suc s) count ts))
    (of_session s ts) (own s ts))
