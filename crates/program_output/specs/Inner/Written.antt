-- What was written, and why a run ends where it was not.
use Rattle.std.specs.Prelude.{◌≢◌, ℕ, List, [], Option, Result, Ok, Err}
use Rattle.std.specs.Io.KnownBytes.{Appends}
use Rattle.emu_names.specs.Count.{Rose}
use Rattle.emu_io.specs.Fronts.{WritesFront}
use Rattle.script_lines.specs.declared.faults.LineFault.TheVariants as faults
use Rattle.program_output.specs.declared.ended.Ended.{Ended}
use Rattle.program_output.specs.declared.ended.Ended.TheVariants as ends

-- what a text was written as, or why it was not
abbrev pub WritesText : {A : Type 0} → Result A Ended → Option (List ℕ) → Option (List ℕ) → List ℕ → Type 0
WritesText (Ok x) before now text = Appends before now text
WritesText (Err ends.Write) before now text = WritesFront before now text
WritesText (Err ends.Memory) before now text = Appends before now []
WritesText (Err end) before now text = ⊥

-- several texts were written, or a front of them
abbrev pub WritesTexts : {A : Type 0} → Result A Ended → Option (List ℕ) → Option (List ℕ) → List ℕ → Type 0
WritesTexts (Ok x) before now text = Appends before now text
WritesTexts (Err ends.Write) before now text = WritesFront before now text
WritesTexts (Err ends.Memory) before now text = WritesFront before now text
WritesTexts (Err end) before now text = ⊥

-- an end that comes from a failed write has its cause, and a fault is one that is told
abbrev pub EndHasCause : Ended → ℕ → ℕ → Type 0
EndHasCause ends.Write before now = Rose before now
EndHasCause (ends.AtFault number fault) before now = fault ≢ faults.Memory
EndHasCause ends.Limit before now = Unit {0}
EndHasCause ends.NoRoom before now = Unit {0}
EndHasCause ends.Disk before now = Unit {0}
EndHasCause ends.Memory before now = Unit {0}

-- an end's fault is one that is told
abbrev pub IsTold : Ended → Type 0
IsTold (ends.AtFault number fault) = fault ≢ faults.Memory
IsTold end = Unit {0}
