-- How many attributes a level may have.
use Rattle.std.specs.Prelude.{◌≤◌, List, length}
use Rattle.emu_names.specs.declared.limits.TheConstants.{ATTRIBUTES}

-- at least one, and at most 16
pub record AreFew {A : Type 0} (defs : List A) : Type 0 where
  pub some : 1 ≤ length defs
  pub few : length defs ≤ ATTRIBUTES
