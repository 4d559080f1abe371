-- Segment lists of several bundles as one list, in the order of the bundles' keys.
use Rattle.std.specs.Prelude.{◌≡◌, List, map}
use Rattle.std.specs.List.{flat_map}
use Rattle.std.specs.List.Sorted.{IsPermutation, IsStrictlySortedBy}
use Rattle.emu_names.specs.declared.names.BundleKey.{BundleKey}
use Rattle.emu_names.specs.Order.{key_cmp}
use Rattle.eql_rows.specs.declared.row.Row.{Row}
use Rattle.segment_list.specs.declared.parts.Part.{Part}

-- the keys of the bundles
abbrev pub keys_of : List Part → List BundleKey
keys_of parts = map (λ p. p.key) parts

-- the key of each part stands before those of all parts behind it
abbrev pub RiseByKey : List Part → Type 0
RiseByKey parts = IsStrictlySortedBy key_cmp (keys_of parts)

-- the rows of the parts, one part after another
abbrev pub rows_in_turn : List Part → List Row
rows_in_turn parts = flat_map (λ p. p.rows) parts

-- the rows of all parts, one part after another in the order of their keys
pub record IsMergeOf (parts : List Part) (list : List Row) : Type 0 where
  pub ordered : List Part
  pub same : IsPermutation parts ordered
  pub rises : RiseByKey ordered
  pub rows : list ≡ rows_in_turn ordered
