-- How the program joins two sets of tuples.
use Rattle.std.specs.Prelude.{◌≡◌, ℕ, Bool, true, false, ◌||◌, List, [], All, get_or, length}
use Rattle.std.specs.List.{list_all, list_any}
use Rattle.bundle_state.specs.Bundle.{BundleParts}
use Rattle.hier_closure.specs.Dominance.{closure_of}
use Rattle.eql_tuples.specs.declared.tuple.Tuple.{Tuple}
use Rattle.eql_tuples.specs.Inner.Stretches.{positions}
use Rattle.eql_tuples.specs.Tuples.{fits_in, follows, both, left_with}
use Rattle.eql_model.specs.declared.joins.Join.{Join}
use Rattle.eql_model.specs.declared.joins.Join.TheVariants.{Sequence, Dominance}

-- the bit at a place of a row of some rows
abbrev pub bit_at : List (List Bool) → ℕ → ℕ → Bool
bit_at rows i j = get_or (get_or rows i []) j false

-- some row of the upper stretch has the bit of this place
abbrev pub is_under : List (List Bool) → Tuple → ℕ → Bool
is_under rows upper j = list_any (λ i. bit_at rows i j) (positions upper)

-- each place of the lower stretch has its bit in some row of the upper one
abbrev pub bits_cover : List (List Bool) → Tuple → Tuple → Bool
bits_cover rows upper lower = list_all (is_under rows upper) (positions lower)

-- two tuples go with each other
abbrev pub goes_with : Join → Tuple → Tuple → Bool
goes_with Sequence left right = follows left right
goes_with (Dominance down up) left right = bits_cover down left right || bits_cover up right left

-- what two tuples make
abbrev pub makes : Join → Tuple → Tuple → Tuple
makes Sequence left right = both left right
makes (Dominance down up) left right = left_with left right

-- the rows of a dominance are as wide as there are items on the other level
abbrev pub AreWide : Join → Type 0
AreWide Sequence = Unit {0}
AreWide (Dominance down up) =
    All (λ row. length row ≡ length up) down × All (λ row. length row ≡ length down) up

-- a tuple lies on the left level
abbrev pub IsOnLeft : Join → Tuple → Type 0
IsOnLeft Sequence t = Unit {0}
IsOnLeft (Dominance down up) t = fits_in (length down) t ≡ true

-- a tuple lies on the right level
abbrev pub IsOnRight : Join → Tuple → Type 0
IsOnRight Sequence t = Unit {0}
IsOnRight (Dominance down up) t = fits_in (length up) t ≡ true

-- a dominance between two levels of a bundle
abbrev pub both_ways : BundleParts → ℕ → ℕ → Join
both_ways b left right = Dominance (closure_of b right left) (closure_of b left right)
