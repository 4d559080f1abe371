-- Readings in order: the first fault is the answer.
use Rattle.std.specs.Prelude.{List, ◌++◌, Result, Ok, Err}

infixl 10 ◌>>=◌
-- the second reading, of what the first gave
abbrev pub ◌>>=◌ : {A B E : Type 0} → Result A E → (A → Result B E) → Result B E
Ok x >>= f = f x
Err e >>= f = Err e

-- what was read before, and then what the rest gives
abbrev pub with_front : {A E : Type 0} → List A → Result (List A) E → Result (List A) E
with_front front (Ok xs) = Ok (front ++ xs)
with_front front (Err e) = Err e
