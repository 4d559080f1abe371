-- Objects (RFC 8259) that are made member by member: each stands at its place by its name's bytes.
use Rattle.std.specs.Prelude.{ℕ, List, [], ◌∷◌, ◌++◌}
use Rattle.serde_json.specs.Data.{Data, object, Members, no_members, put}
use Rattle.serde_json.specs.Written.{compact_text}

-- a name and a value
pub record Named : Type 0 where
  pub name : List ℕ
  pub value : Data

-- members with these put among them, one after another
abbrev pub with_all : List Named → Members → Members
with_all [] ms = ms
with_all (it ∷ rest) ms = with_all rest (put it.name it.value ms)

-- the object of these members, in the order of their names' bytes
abbrev pub object_of : List Named → Data
object_of all = object (with_all all no_members)

-- one line: the compact text and a line feed
unfoldable pub line_text : Data → List ℕ
line_text d = compact_text d ++ 10 ∷ []
