-- How the answer of a reader of lines goes with a definition. Running out of memory alone is left open.
use Rattle.std.specs.Prelude.{Result, Ok, Err}
use Rattle.json_view.specs.declared.faults.Shape.{Shape}
use Rattle.config_json.specs.declared.faults.ConfigFault.{ConfigFault}
use Rattle.config_json.specs.declared.faults.ConfigFault.TheVariants as config_faults
use Rattle.script_lines.specs.declared.faults.LineFault.{LineFault}
use Rattle.script_lines.specs.declared.faults.LineFault.TheVariants as faults

-- the fault of a configuration, as that of the line: a part of another form is one everywhere
abbrev pub config_line_fault : ConfigFault → LineFault
config_line_fault (config_faults.Shape s) = faults.Shape s
config_line_fault config_faults.Memory = faults.Memory
config_line_fault (config_faults.TooMany what) = faults.Config (config_faults.TooMany what)
config_line_fault (config_faults.DoubleName name) = faults.Config (config_faults.DoubleName name)
config_line_fault (config_faults.UnknownLevel name) = faults.Config (config_faults.UnknownLevel name)
config_line_fault config_faults.DoubleLink = faults.Config config_faults.DoubleLink
config_line_fault config_faults.LevelCycle = faults.Config config_faults.LevelCycle

-- a reading's shape as a fault of the line
abbrev pub form : {A : Type 0} → Result A Shape → Result A LineFault
form (Ok x) = Ok x
form (Err s) = Err (faults.Shape s)

-- a configuration's fault as a fault of the line
abbrev pub config_form : {A : Type 0} → Result A ConfigFault → Result A LineFault
config_form (Ok x) = Ok x
config_form (Err e) = Err (config_line_fault e)
