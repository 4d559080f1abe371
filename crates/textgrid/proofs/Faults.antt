-- Answers that hand on a fault.
use Rattle.std.proofs.Common.{◌≡◌, ◌≢◌, Result, Ok, Err, sym, ap, ◌∙◌}
use Rattle.std.specs.Prelude.{IfErr}
use Rattle.std.specs.Result.{IsErrAnd}
use Rattle.textgrid.specs.declared.fault.GridFault.{GridFault}
use Rattle.textgrid.specs.declared.fault.GridFault.TheVariants.{Memory}

-- the fault that is handed on is the one that is told
pub hands_on : {A B : Type 0} (answer : Result A GridFault) (told : Result B GridFault) (e : GridFault) → IsErrAnd answer (λ x. x ≡ e) → (e ≢ Memory → told ≡ Err e) → IfErr answer (λ fault. fault ≢ Memory → told ≡ Err fault)
hands_on (Ok a) told e same is = absurd same
hands_on (Err x) told e same is = λ other. is (λ none. other (same ∙ none)) ∙ ap (λ (f : GridFault). Err f) (sym same)
