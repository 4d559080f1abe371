-- Readings in order, taken apart.
use Rattle.std.proofs.Common.{◌≡◌, refl}
use Rattle.std.specs.Prelude.{Result, Ok, Err}
use Rattle.json_view.specs.declared.faults.Shape.{Shape}
use Rattle.json_view.specs.Steps.{◌>>=◌}
use Rattle.config_json.specs.declared.faults.ConfigFault.{ConfigFault}
use Rattle.config_json.specs.Faults as config

-- a reading that goes on to the end was taken at its first step
pub record Taken {A B E : Type 0} (first : Result A E) (rest : A → Result B E) (end : B) : Type 0 where
  pub value : A
  pub first_is : first ≡ Ok value
  pub rest_is : rest value ≡ Ok end

pub taken : {A B E : Type 0} (first : Result A E) (rest : A → Result B E) (end : B) → (first >>= rest) ≡ Ok end → Taken first rest end
taken (Ok value) rest end told = record { value = value; first_is = refl; rest_is = told }
taken (Err e) rest end told = absurd (cc)

-- a shape that was read as a part of a configuration
pub config_form_ok : {A : Type 0} (r : Result A Shape) (x : A) → config.form r ≡ Ok x → r ≡ Ok x
config_form_ok (Ok y) x h = cc
config_form_ok (Err s) x h = absurd (cc)

abbrev pub ok_config : {A : Type 0} → A → Result A ConfigFault
ok_config x = Ok x

pub config_same : {A : Type 0} (x y : A) → ok_config x ≡ ok_config y → x ≡ y
config_same x y told = cc
