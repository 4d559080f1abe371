-- Words of contracts and loops beside `specs/Fronts.antt`; no promise of the program rests on them.
use Rattle.std.specs.Prelude.{◌≡◌, ◌↔◌, ℕ, ◌<◌, Bool, true, false, IsTrue, List, ◌++◌, length, take, Option}
use Rattle.std.specs.Io.KnownBytes.{Consumes, IsAtEnd}
use Rattle.emu_io.specs.Fronts.{Tells}

-- the source gave the bytes and is at its end, or, where it went past, gave at least one byte more
abbrev pub TakesFront : Option (List ℕ) → Option (List ℕ) → List ℕ → Bool → Type 0
TakesFront old new bytes false = Consumes old new bytes × IsAtEnd new
TakesFront old new bytes true =
    (more : List ℕ) × (0 < length more) × Consumes old new (bytes ++ more)

-- of some text, which is the source's own where that is told, these are the first `most` bytes, and
-- it has more exactly where it is `past` them
pub record IsFrontOf (left : Option (List ℕ)) (most : ℕ) (bytes : List ℕ)
    (past : Bool) : Type 0 where
  pub text : List ℕ
  pub told : Tells left text
  pub front : bytes ≡ take most text
  pub longer : IsTrue past ↔ (most < length text)
