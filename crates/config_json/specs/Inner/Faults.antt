-- Words of contracts and loops beside `specs/Faults.antt`; no promise of the program rests on them.
use Rattle.std.specs.Prelude.{Result}
use Rattle.emu_names.specs.Inner.Gives.{ShowsAs}
use Rattle.json_view.specs.declared.faults.ViewFault.{ViewFault}
use Rattle.json_view.specs.declared.faults.ViewFault.TheVariants as view_faults
use Rattle.config_json.specs.declared.faults.ConfigFault.{ConfigFault}
use Rattle.config_json.specs.declared.faults.ConfigFault.TheVariants as faults

-- the fault of a part of a value, as that of a configuration
abbrev pub as_config_fault : ViewFault → ConfigFault
as_config_fault (view_faults.Shape s) = faults.Shape s
as_config_fault view_faults.Memory = faults.Memory

-- the answer is the defined one, or memory ran out
abbrev pub Reads : {A : Type 0} → Result A ConfigFault → Result A ConfigFault → Type 0
Reads = ShowsAs (λ value. value) faults.Memory
