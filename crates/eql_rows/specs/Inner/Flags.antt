-- Rows of flags, one flag for each item of a level.
use Rattle.std.specs.Prelude.{ℕ, Bool, false, List, unwrap_or}
use Rattle.std.specs.List.{slice_get}

-- the flag at a place of a row; none is set past its end
abbrev pub flag_at : ℕ → List Bool → Bool
flag_at at row = unwrap_or (slice_get row at) false
