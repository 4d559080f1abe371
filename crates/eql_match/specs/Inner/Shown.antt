-- Tuples that show themselves.
use Rattle.std.specs.Prelude.{Bool, is_some, not}
use Rattle.eql_tuples.specs.declared.tuple.Tuple.{Tuple}

-- a tuple has no mark
abbrev pub is_bare : Tuple → Bool
is_bare t = not (is_some t.mark)
