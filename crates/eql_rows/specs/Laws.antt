-- What a user can check of the times of rows.
use Rattle.std.specs.Prelude.{◌≡◌, ℕ, ◌+◌}
use Rattle.emu_names.specs.declared.kinds.LevelKind.TheVariants as kinds
use Rattle.eql_rows.specs.Rows.{start_of, end_of}

-- a segment that begins with the sample behind the last one of another starts in the microsecond in which
-- that one ends
abbrev pub TouchingSegmentsMeet : Type 0
TouchingSegmentsMeet =
    (rate last : ℕ) → end_of kinds.Segment rate last ≡ start_of kinds.Segment rate (last + 1)
