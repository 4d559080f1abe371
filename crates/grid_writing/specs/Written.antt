-- What is written of a bundle, or the level whose tier would have too many entries.
use Rattle.std.specs.Prelude.{ℕ, nat_lt, if◌then◌else◌, List, [], ◌∷◌, length, Option, Some, None, Result, Ok, Err}
use Rattle.emu_names.specs.declared.limits.TheConstants.{GRID_ENTRIES}
use Rattle.db_config.specs.declared.parts.ConfigParts.{ConfigParts}
use Rattle.bundle_state.specs.Bundle.{BundleParts}
use Rattle.grid_writing.specs.declared.levels.TimeLevel.{TimeLevel}
use Rattle.grid_writing.specs.Levels.{end_of, time_levels}
use Rattle.grid_writing.specs.Layout.{grid_text}

-- the levels of a bundle that are written
abbrev pub written_levels : ConfigParts → BundleParts → List TimeLevel
written_levels config bundle = time_levels (end_of bundle.levels) config.levels bundle.levels

-- the name of the first level with more than 65,536 entries
abbrev pub crowded : List TimeLevel → Option (List ℕ)
crowded [] = None
crowded (level ∷ levels) =
    if nat_lt GRID_ENTRIES (length level.entries) then Some level.name else crowded levels

-- a text, unless a level has too many entries
abbrev pub unless_crowded : Option (List ℕ) → List ℕ → Result (List ℕ) (List ℕ)
unless_crowded None text = Ok text
unless_crowded (Some name) text = Err name

-- The TextGrid of a bundle, or the name of the first level with too many entries.
unfoldable pub written : ConfigParts → BundleParts → Result (List ℕ) (List ℕ)
written config bundle =
    unless_crowded (crowded (written_levels config bundle))
    (grid_text bundle.rate (end_of bundle.levels) (written_levels config bundle))
