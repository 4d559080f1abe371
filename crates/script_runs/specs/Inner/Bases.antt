-- Words of contracts and loops beside `specs/Bases.antt`; no promise of the program rests on them.
use Rattle.std.specs.Prelude.{Bool, true, false}
use Rattle.script_runs.specs.Bases.{Base, bare_store, no_store}

-- before a script's configuration a run has no store, or a bare one
abbrev pub fresh_base : Bool → Base
fresh_base false = no_store
fresh_base true = bare_store
