-- A stretch by its positions.
use Rattle.std.specs.Prelude.{ℕ, ◌+◌, ◌-◌, List}
use Rattle.std.specs.List.{range_with_len}
use Rattle.eql_tuples.specs.declared.tuple.Tuple.{Tuple}

-- the positions of a tuple's stretch
abbrev pub positions : Tuple → List ℕ
positions t = range_with_len t.first (t.last + 1 - t.first)
