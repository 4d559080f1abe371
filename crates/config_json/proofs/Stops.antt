-- A reading that ends at the fault of its first step.
use Rattle.std.proofs.Common.{◌≡◌, ◌≢◌, refl, sym, ap, ◌∙◌}
use Rattle.std.specs.Prelude.{Result, Ok, Err}
use Rattle.std.specs.Result.{IsErrAnd}
use Rattle.json_view.specs.declared.faults.Shape.{Shape}
use Rattle.json_view.specs.declared.faults.ViewFault.{ViewFault}
use Rattle.json_view.specs.declared.faults.ViewFault.TheVariants as view_faults
use Rattle.json_view.specs.Steps.{◌>>=◌}
use Rattle.config_json.specs.declared.faults.ConfigFault.{ConfigFault}
use Rattle.config_json.specs.declared.faults.ConfigFault.TheVariants as faults
use Rattle.config_json.specs.Faults.{form}
use Rattle.config_json.specs.Inner.Faults.{Reads, as_config_fault}

ends : {A B : Type 0} (first : Result A ConfigFault) (rest : A → Result B ConfigFault) (e : ConfigFault) → first ≡ Err e → (first >>= rest) ≡ Err e
ends (Ok x) rest e is = cc
ends (Err f) rest e is = cc

-- a fault of one's own
pub stops : {A B : Type 0} (answer : Result B ConfigFault) (e : ConfigFault) (first : Result A ConfigFault) (rest : A → Result B ConfigFault)
    → IsErrAnd answer (λ x. x ≡ e) → (e ≢ faults.Memory → first ≡ Err e) → Reads answer (first >>= rest)
stops (Ok x) e first rest same tells = absurd same
stops (Err x) e first rest same tells = λ some. ends first rest x (tells (λ none. some (same ∙ none)) ∙ ap Err (sym same))

formed : {A : Type 0} (e : ViewFault) (x : ConfigFault) (first : Result A Shape) → x ≡ as_config_fault e → x ≢ faults.Memory →
    ((s : Shape) → e ≡ view_faults.Shape s → first ≡ Err s) → form first ≡ Err x
formed (view_faults.Shape s) x first is some tells = ap form (tells s refl) ∙ ap Err (sym is)
formed view_faults.Memory x first is some tells = absurd (some is)

-- the fault of a part of a value
pub stops_at : {A B : Type 0} (answer : Result B ConfigFault) (e : ViewFault) (first : Result A Shape) (rest : A → Result B ConfigFault)
    → IsErrAnd answer (λ x. x ≡ as_config_fault e) → ((s : Shape) → e ≡ view_faults.Shape s → first ≡ Err s)
    → Reads answer (form first >>= rest)
stops_at (Ok x) e first rest same tells = absurd same
stops_at (Err x) e first rest same tells = λ some. ends (form first) rest x (formed e x first same some tells)
