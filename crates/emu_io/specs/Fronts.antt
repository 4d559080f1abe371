-- What a whole text is to the source that it is read from, and to the sink that it is written to.
use Rattle.std.specs.Prelude.{◌≡◌, ℕ, List, take, Option, None, Some, ⊤}
use Rattle.std.specs.Io.KnownBytes.{Appends}

-- the sink took a front of the text, which may be all of it or nothing
abbrev pub WritesFront : Option (List ℕ) → Option (List ℕ) → List ℕ → Type 0
WritesFront old new text = (n : ℕ) × Appends old new (take n text)

-- the text is what the source had left, where the source tells it
abbrev pub Tells : Option (List ℕ) → List ℕ → Type 0
Tells None text = ⊤
Tells (Some known) text = known ≡ text
