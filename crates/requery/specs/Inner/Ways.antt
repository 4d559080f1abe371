-- How the program finds what results reach on another level: a stretch for each item of their level.
use Rattle.std.specs.Prelude.{◌≡◌, ℕ, ◌<◌, ◌+◌, ◌-◌, Bool, ◌||◌, List, [], ◌∷◌, length, get_or, min, max, Option, None, Some, if◌then◌else◌}
use Rattle.std.specs.List.{filter, range_with_len}
use Rattle.eql_tuples.specs.declared.tuple.Tuple.{Tuple}
use Rattle.eql_rows.specs.declared.span.Span.{Span}
use Rattle.eql_rows.specs.Inner.Flags.{flag_at}
use Rattle.eql_model.specs.Inner.Joins.{bit_at}
use Rattle.eql_tuples.specs.Shown.{bare}
use Rattle.requery.specs.declared.target.Target.{Target}
use Rattle.requery.specs.declared.target.Target.TheVariants.{Level, Along}
use Rattle.requery.specs.declared.stretches.Way.{Way}
use Rattle.requery.specs.declared.stretches.Way.TheVariants.{Own, Kin}
use Rattle.requery.specs.Reach.{whole_stretch}

-- the least stretch round two stretches, of which either may be missing
abbrev pub union : Option Tuple → Option Tuple → Option Tuple
union None other = other
union (Some one) None = Some one
union (Some one) (Some other) = Some (bare (min one.first other.first) (max one.last other.last))

-- the same of one stretch for each of some numbers
abbrev pub union_over : (ℕ → Option Tuple) → List ℕ → Option Tuple
union_over f [] = None
union_over f (i ∷ is) = union (f i) (union_over f is)

-- the stretch of one position, where it counts
abbrev pub one_if : Bool → ℕ → Option Tuple
one_if counts at = if counts then Some (bare at at) else None

-- the stretch from the first bit of a row to its last
abbrev pub row_stretch : List Bool → Option Tuple
row_stretch row = whole_stretch (filter (λ k. flag_at k row) (range_with_len 0 (length row)))

-- one position more for each item whose bit is set in a row
pub record AreWidened (row : List Bool) (at : ℕ) (old new : List (Option Tuple)) : Type 0 where
  pub count : length new ≡ length old
  pub each : (i : ℕ) → i < length old → get_or new i None ≡ union (get_or old i None) (one_if (flag_at i row) at)

-- the same by the first of some rows, each of which stands for the position of its number
pub record AreWidenedBy (rows : List (List Bool)) (count : ℕ) (old new : List (Option Tuple)) : Type 0 where
  pub count_is : length new ≡ length old
  pub each : (i : ℕ) → i < length old → get_or new i None
      ≡ union (get_or old i None) (whole_stretch (filter (λ k. bit_at rows k i) (range_with_len 0 count)))

-- the stretch of the kin of an item, among the first items of the other level: `down` says which items of the
-- result's level dominate which of the other one, `up` the other way round
abbrev pub kin_stretch : List (List Bool) → List (List Bool) → ℕ → ℕ → Option Tuple
kin_stretch down up width i =
    whole_stretch (filter (λ k. bit_at down i k || bit_at up k i) (range_with_len 0 width))

-- there is a stretch for each item of the level of the results, and it is that of its kin
pub record AreKinStretches (down up : List (List Bool)) (stretches : List (Option Tuple)) : Type 0 where
  pub count : length stretches ≡ length down
  pub each : (i : ℕ) → i < length down → get_or stretches i None ≡ kin_stretch down up (length up) i

-- the positions of a result
abbrev pub positions_of : Span → List ℕ
positions_of span = range_with_len span.first (span.last + 1 - span.first)

-- the stretch of a result on a level: its own, or that of the kin of its items
abbrev pub stretch_by : Way → Span → Option Tuple
stretch_by Own span = Some (bare span.first span.last)
stretch_by (Kin stretches) span = union_over (λ i. get_or stretches.items i None) (positions_of span)

-- the results lie where there are stretches
abbrev pub LiesIn : Way → Span → Type 0
LiesIn Own span = Unit {0}
LiesIn (Kin stretches) span = span.last < length stretches.items

-- the results stay on their level
abbrev pub IsNear : ℕ → Target → Type 0
IsNear level (Level place) = place.level ≡ level
IsNear level (Along shift) = Unit {0}
