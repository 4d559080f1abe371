-- The bytes that an append stages behind the gate.
use Rattle.std.specs.Prelude.{◌≡◌, ℕ, ◌-◌, ◌+◌, ◌^◌, ◌≤◌, List, [], ◌∷◌, ◌++◌, length, take, drop}
use Rattle.std.specs.Int.{w32, to_be_bytes}

-- a body's length, its bytes and a closed gate
abbrev pub staged_of : List ℕ → List ℕ
staged_of body = to_be_bytes w32 (length body) ++ body ++ 0 ∷ []

-- the body of such bytes
abbrev pub body_of : List ℕ → List ℕ
body_of staged = take (length staged - 5) (drop 4 staged)

-- such bytes, of a body of 1 to 2^28 bytes
pub record IsStaged (staged : List ℕ) : Type 0 where
  pub whole : staged ≡ staged_of (body_of staged)
  pub some : 6 ≤ length staged
  pub most : length staged ≤ 2 ^ 28 + 5
