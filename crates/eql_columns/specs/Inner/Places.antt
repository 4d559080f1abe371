-- Positions by rows of bits, whatever the ids of the items are, as long as they differ.
use Rattle.std.specs.Prelude.{◌≡◌, ℕ, Bool, true, ◌||◌, List, length, map}
use Rattle.std.specs.List.{list_any, range_with_len}
use Rattle.level_items.specs.Levels.{are_different}
use Rattle.eql_syntax.specs.declared.query.Place.{Place}
use Rattle.eql_rows.specs.Inner.Flags.{flag_at}
use Rattle.eql_model.specs.Inner.Bits.{row_stands, rows_place}

-- a row is the one of a test of positions, for any items of so many different ids
pub record IsByIds (width : ℕ) (test : List ℕ → ℕ → Bool) (row : List Bool) : Type 0 where
  pub long : length row ≡ width
  pub is : (ids : List ℕ) → are_different ids ≡ true → length ids ≡ width →
      row ≡ map (test ids) (range_with_len 0 width)

-- the bits of the items that stand at the place among those with a bit of the row were set
abbrev pub AddsPlaced : Place → List Bool → List Bool → List Bool → Type 0
AddsPlaced place row old new =
    IsByIds (length row) (λ ids k. flag_at k old || row_stands ids place k row) new

-- a row has the bits of the items that stand at the place among those with a bit of one of these rows
abbrev pub ArePlaced : Place → List (List Bool) → ℕ → List Bool → Type 0
ArePlaced place rows width placed =
    IsByIds width (λ ids k. list_any (row_stands ids place k) rows) placed

-- a row has the bits of the items that pass a test of their place
abbrev pub PassPlace : Place → Bool → List (List Bool) → ℕ → List Bool → Type 0
PassPlace place wanted rows width row =
    IsByIds width (λ ids k. rows_place rows ids place wanted k) row
