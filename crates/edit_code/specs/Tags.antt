-- The forms of kinds: a kind of a list stands as the byte that is its number.
use Rattle.std.specs.Prelude.{◌≡◌, ℕ, suc, ◌<◌, ◌==◌, List, [], ◌∷◌, length, Option, Some, None, Result, Ok, Err}
use Rattle.std.specs.List.{find}
use Rattle.byte_forms.specs.Forms.{Form, ◌>>=◌}
use Rattle.byte_forms.specs.Parts.{byte_from_to}

-- the kind of a number, if the list has one
abbrev pub kind_at : {K : Type 0} → List K → (K → ℕ) → ℕ → Option K
kind_at kinds number n = find (λ k. number k == n) kinds

-- the kind that the byte before these stands for
abbrev pub tagged : {K : Type 0} → List ℕ → Option K → Result (K × List ℕ) ℕ
tagged rest None = Err (suc (length rest))
tagged rest (Some k) = Ok (k, rest)

-- the kind that the first byte stands for
abbrev pub tag_at : {K : Type 0} → List K → (K → ℕ) → List ℕ → Result (K × List ℕ) ℕ
tag_at kinds number bytes = (byte_from_to 0 255).read bytes >>= λ x. tagged x.1 (kind_at kinds number x.0)

-- a kind of the list, as the byte that is its number
unfoldable pub tag_form : {K : Type 0} → List K → (K → ℕ) → Form K
tag_form kinds number = record {
  fits = λ k. (number k < 256) × (kind_at kinds number (number k) ≡ Some k);
  code = λ k. number k ∷ [];
  read = tag_at kinds number;
}
