-- How a tuple of one side is joined with those of the other side.
use Rattle.std.specs.Prelude.{◌≡◌, ℕ, Bool, true, List, All, length}
use Rattle.std.specs.List.{flat_map}
use Rattle.std.specs.List.Sorted.{IsNonDecreasingBy}
use Rattle.bundle_state.specs.Bundle.{BundleParts}
use Rattle.hier_closure.specs.Dominance.{closure_of}
use Rattle.eql_tuples.specs.declared.tuple.Tuple.{Tuple}
use Rattle.eql_tuples.specs.Tuples.{fits_in, follows, both, left_with, pairs_with}
use Rattle.eql_model.specs.Inner.Joins.{bits_cover}
use Rattle.eql_match.specs.declared.ways.Way.{Way}
use Rattle.eql_match.specs.declared.ways.Way.TheVariants.{Behind, Covers, CoversLeft}
use Rattle.eql_match.specs.Inner.Reach.{IsWithin}

-- the first positions of tuples never fall
abbrev pub Rise : List Tuple → Type 0
Rise ts = IsNonDecreasingBy (λ (t : Tuple). t.first) ts

-- a tuple is joined with another
abbrev pub joins : Way → Tuple → Tuple → Bool
joins Behind one other = follows one other
joins (Covers rows) one other = bits_cover rows one other
joins (CoversLeft rows) one other = bits_cover rows one other

-- the right tuple comes first here
abbrev pub with_left : Tuple → Tuple → Tuple
with_left right left = left_with left right

-- what a tuple and another make
abbrev pub makes : Way → Tuple → Tuple → Tuple
makes Behind one other = both one other
makes (Covers rows) one other = left_with one other
makes (CoversLeft rows) one other = with_left one other

-- there is a row for each item of a tuple
abbrev pub IsOne : Way → Tuple → Type 0
IsOne Behind t = Unit {0}
IsOne (Covers rows) t = fits_in (length rows) t ≡ true
IsOne (CoversLeft rows) t = fits_in (length rows) t ≡ true

-- there is a bit for each item of another tuple
abbrev pub IsOther : Way → Tuple → Type 0
IsOther Behind t = Unit {0}
IsOther (Covers rows) t = All (λ row. fits_in (length row) t ≡ true) rows
IsOther (CoversLeft rows) t = All (λ row. fits_in (length row) t ≡ true) rows

-- all tuples begin within the reach that a tuple is joined with
pub record ReachesAll (way : Way) (one : Tuple) (reach : ℕ × ℕ) : Type 0 where
  pub each : (other : Tuple) → IsOther way other → joins way one other ≡ true → IsWithin reach other.first

-- what each left tuple makes with the right ones that it covers
abbrev pub covering_pairs : BundleParts → ℕ × ℕ → List Tuple → List Tuple → List Tuple
covering_pairs b levels lefts rights =
    flat_map (pairs_with (bits_cover (closure_of b levels.1 levels.0)) left_with rights) lefts

-- what each right tuple makes with the left ones that it covers
abbrev pub covered_pairs : BundleParts → ℕ × ℕ → List Tuple → List Tuple → List Tuple
covered_pairs b levels lefts rights =
    flat_map (pairs_with (bits_cover (closure_of b levels.0 levels.1)) with_left lefts) rights
