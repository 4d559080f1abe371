-- How a place in a JSON value (RFC 8259) is written: `$` is the whole value, `.name` a member of an
-- object, and `[k]` an element of a list, counted from 0.
use Rattle.std.specs.Prelude.{ℕ, List, ◌++◌, codes, decimal}

-- the path of the whole value
abbrev pub root_path : List ℕ
root_path = codes "$"

-- the path of the member of this name, below that of its object
abbrev pub member_path : List ℕ → List ℕ → List ℕ
member_path path name = path ++ (codes "." ++ name)

-- the path of the element at this place, below that of its list
abbrev pub element_path : List ℕ → ℕ → List ℕ
element_path path place = path ++ (codes "[" ++ (decimal place ++ codes "]"))
