-- A form: which bytes stand for which values, and how they are read. And what holds of the forms of codes.
use Rattle.std.specs.Prelude.{◌≡◌, ℕ, suc, ◌<◌, List, [], ◌∷◌, ◌++◌, length, get_or, Result, Ok, Err}

-- a form: the values that have a code, the code of a value, and the reading of a code that bytes begin with.
-- A reading gives the value with the bytes behind its code; or how many bytes are left from the first one that,
-- with those before it, begins no code, which are none where the bytes only end too early
pub record Form (A : Type 0) : Type 1 where
  pub fits : A → Type 0
  pub code : A → List ℕ
  pub read : List ℕ → Result (A × List ℕ) ℕ

infixl 10 ◌>>=◌
-- the second reading, of what the first gave
abbrev pub ◌>>=◌ : {A B E : Type 0} → Result A E → (A → Result B E) → Result B E
Ok x >>= f = f x
Err e >>= f = Err e

-- each number is a byte
abbrev pub AreBytes : List ℕ → Type 0
AreBytes bytes = (i : ℕ) → get_or bytes i 0 < 256

-- the bytes are the code of the value
abbrev pub IsCode : {A : Type 0} → Form A → List ℕ → A → Type 0
IsCode f bytes v = f.fits v × (bytes ≡ f.code v)

-- a code begins with these bytes
abbrev pub Begins : {A : Type 0} → Form A → List ℕ → Type 0
Begins {A = A} f front = (v : A) × (rest : List ℕ) × f.fits v × (f.code v ≡ front ++ rest)

-- each value has one code, each code one value, and no code begins another
abbrev pub IsPrefixFree : {A : Type 0} → Form A → Type 0
IsPrefixFree {A = A} f =
    (a rest : List ℕ) (v w : A) → IsCode f a v → IsCode f (a ++ rest) w → (rest ≡ []) × (v ≡ w)

-- behind the front the first byte cannot stand, whatever follows it
abbrev pub IsShut : {A : Type 0} → (List ℕ → Result (A × List ℕ) ℕ) → List ℕ → List ℕ → Type 0
IsShut read front [] = Unit {0}
IsShut read front (b ∷ back) = (rest : List ℕ) → read (front ++ b ∷ rest) ≡ Err (suc (length rest))

-- so many bytes are left where no code goes on
pub record IsStuck {A : Type 0} (f : Form A) (bytes : List ℕ) (left : ℕ) : Type 0 where
  pub front : List ℕ
  pub back : List ℕ
  pub split : bytes ≡ front ++ back
  pub len : left ≡ length back
  pub begun : Begins f front
  pub shut : IsShut f.read front back

-- the reading is that of the codes: some value has one; a code is read again, whatever follows it; what is read
-- is the code of its value; and where reading stops, no code goes on
pub record IsForm {A : Type 0} (f : Form A) : Type 0 where
  pub some : (v : A) × f.fits v
  pub again : (v : A) (rest : List ℕ) → f.fits v → f.read (f.code v ++ rest) ≡ Ok (v, rest)
  pub only : (bytes : List ℕ) (x : A × List ℕ) → AreBytes bytes → f.read bytes ≡ Ok x
      → f.fits x.0 × (bytes ≡ f.code x.0 ++ x.1) × AreBytes x.1
  pub stuck : (bytes : List ℕ) (left : ℕ) → AreBytes bytes → f.read bytes ≡ Err left → IsStuck f bytes left
