-- The forms of lists: a count, and the elements one behind another.
use Rattle.std.specs.Prelude.{◌≡◌, ℕ, zero, suc, List, [], ◌∷◌, ◌++◌, length, Result, Ok}
use Rattle.byte_forms.specs.Forms.{Form, ◌>>=◌}
use Rattle.byte_forms.specs.Parts.{led, u32_form}

-- each element fits
abbrev pub ItemsFit : {A : Type 0} → Form A → List A → Type 0
ItemsFit f [] = Unit {0}
ItemsFit f (x ∷ xs) = f.fits x × ItemsFit f xs

-- the codes of the elements, one behind another
abbrev pub items_code : {A : Type 0} → Form A → List A → List ℕ
items_code f [] = []
items_code f (x ∷ xs) = f.code x ++ items_code f xs

-- an element, and then the ones behind it
abbrev pub consed : {A : Type 0} → A → List A × List ℕ → Result (List A × List ℕ) ℕ
consed x y = Ok (x ∷ y.0, y.1)

-- so many elements, one behind another
abbrev pub items_at : {A : Type 0} → Form A → ℕ → List ℕ → Result (List A × List ℕ) ℕ
items_at f zero bytes = Ok ([], bytes)
items_at f (suc n) bytes = f.read bytes >>= λ x. items_at f n x.1 >>= consed x.0

-- a list of so many elements
unfoldable pub times : {A : Type 0} → Form A → ℕ → Form (List A)
times f n = record { fits = λ xs. (length xs ≡ n) × ItemsFit f xs; code = items_code f; read = items_at f n }

-- a list: how many elements there are, and the elements
unfoldable pub list_of : {A : Type 0} → Form A → Form (List A)
list_of f = led u32_form length (times f)
