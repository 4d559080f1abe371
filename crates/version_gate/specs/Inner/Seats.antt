-- What a seat at the two copies knows: whether it was told a gate, and which.
use Rattle.std.specs.Prelude.{◌≡◌, ℕ, true, false, List}
use mathlib.Core.Option.{some}
use lib.ListN.{get_elem?}
use Rattle.logbook.specs.Pages.{Book}
use Rattle.version_gate.specs.declared.rule.Known.{Known}
use Rattle.version_gate.specs.Lists.{Front}

-- it was told no gate
abbrev pub stranger : Known
stranger = record { told = false; number = 0; log_name = 0; cells_name = 0 }

-- told this gate
abbrev pub told_of : Book → Known
told_of gate = record {
  told = true;
  number = gate.number;
  log_name = gate.log_name;
  cells_name = gate.cells_name;
}

-- the gate that it was told
abbrev pub named : Known → Book
named v = record { number = v.number; log_name = v.log_name; cells_name = v.cells_name }

-- it was told this gate
abbrev pub Knows : Book → Known → Type 0
Knows gate v = (v.told ≡ true) × (named v ≡ gate)

-- if it was told a gate, then this one
abbrev pub Fits : Book → Known → Type 0
Fits gate v = v.told ≡ true → named v ≡ gate

-- The rule: each seat that was told a gate was told that of the copies
abbrev pub Agree : Book → List Known → Type 0
Agree gate views = (seat : ℕ) (v : Known) → get_elem? views seat ≡ some v → Fits gate v

module _ {T : Type 0} where
  -- who enters finds the gate that it knew, and knows it afterwards
  abbrev pub Enters : Known → Front T → Front T → Known → Type 0
  Enters v x y w = Fits x.gate v × Knows y.gate w

  -- who publishes learns nothing
  abbrev pub Shows : Known → Front T → Front T → Known → Type 0
  Shows v x y w = w ≡ v

  -- who publishes first learns the gate
  abbrev pub Teaches : Known → Front T → Front T → Known → Type 0
  Teaches v x y w = Knows y.gate w
