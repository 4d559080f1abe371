-- What a view shows: a JSON value (RFC 8259) and the path at which it stands.
use Rattle.std.specs.Prelude.{ℕ, List}
use Rattle.serde_json.specs.Data.{Data}

-- a value, and the path at which it stands
pub record Seen : Type 0 where
  pub value : Data
  pub path : List ℕ

-- this value, at this path
abbrev pub seen : Data → List ℕ → Seen
seen value path = record { value = value; path = path }
