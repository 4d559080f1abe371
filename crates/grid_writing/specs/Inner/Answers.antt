-- How the answer of the writer goes with the definition.
use Rattle.std.specs.Prelude.{ℕ, List, Option, Some, None, Result}
use Rattle.emu_names.specs.Inner.Gives.{AnswersAs}
use Rattle.grid_writing.specs.declared.write.WriteFault.{WriteFault}
use Rattle.grid_writing.specs.declared.write.WriteFault.TheVariants.{TooManyEntries, Memory}

-- the name of the level with too many entries
abbrev pub level_named : WriteFault → Option (List ℕ)
level_named (TooManyEntries name) = Some name
level_named Memory = None

-- an answer is the defined text, or names the defined level, or memory ran out
abbrev pub Writes : Result (List ℕ) WriteFault → Result (List ℕ) (List ℕ) → Type 0
Writes = AnswersAs level_named
