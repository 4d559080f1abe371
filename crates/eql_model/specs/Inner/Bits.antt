-- Positions by rows of bits: one row for each upper item, one bit for each lower one.
use Rattle.std.specs.Prelude.{ℕ, Bool, true, false, ◌&&◌, not, List, get_or, count_by}
use Rattle.std.specs.List.{items_where_true, list_any}
use Rattle.eql_syntax.specs.declared.query.Compare.{Compare}
use Rattle.eql_syntax.specs.declared.query.Place.{Place}
use Rattle.eql_rows.specs.Inner.Flags.{flag_at}
use Rattle.eql_model.specs.Positions.{stands, compares}

-- the row has the bit of the item at a position, which stands at the place among those with a bit
abbrev pub row_stands : List ℕ → Place → ℕ → List Bool → Bool
row_stands ids place at row =
    flag_at at row && stands place (items_where_true row ids) (get_or ids at 0)

-- the test with 1, and the one with 0
abbrev pub rows_place : List (List Bool) → List ℕ → Place → Bool → ℕ → Bool
rows_place rows ids place true at = list_any (row_stands ids place at) rows
rows_place rows ids place false at =
    list_any (flag_at at) rows && not (list_any (row_stands ids place at) rows)

-- the number of bits of a row compared with a number
abbrev pub row_counts : Compare → ℕ → List Bool → Bool
row_counts compare number row = compares compare (count_by (λ bit. bit) row) number
