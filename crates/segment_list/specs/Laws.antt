-- What merging comes to.
use Rattle.std.specs.Prelude.{◌≡◌, List}
use Rattle.std.specs.List.Sorted.{IsPermutation}
use Rattle.eql_rows.specs.declared.row.Row.{Row}
use Rattle.segment_list.specs.declared.parts.Part.{Part}
use Rattle.segment_list.specs.Merged.{IsMergeOf, RiseByKey, rows_in_turn}

-- the list that parts merge to is that of the parts in any arrangement by rising keys: there is only one
abbrev pub MergesAreOne : Type 0
MergesAreOne =
    (parts ordered : List Part) (list : List Row) → IsMergeOf parts list → IsPermutation parts ordered →
    RiseByKey ordered → list ≡ rows_in_turn ordered
