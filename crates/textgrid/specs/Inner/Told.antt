-- Faults that are answered, against those that the definitions tell.
use Rattle.std.specs.Prelude.{◌≡◌, ◌≢◌, Result, Err, IfErr}
use Rattle.textgrid.specs.declared.fault.GridFault.{GridFault}
use Rattle.textgrid.specs.declared.fault.GridFault.TheVariants.{Memory}

-- a fault that is answered is the one that is told; want of memory is told by nothing
abbrev pub TellsFault : {A B : Type 0} → Result A GridFault → Result B GridFault → Type 0
TellsFault answer told = IfErr answer (λ fault. fault ≢ Memory → told ≡ Err fault)
