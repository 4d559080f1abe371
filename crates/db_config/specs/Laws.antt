-- What the tests of a configuration come to, each said by itself.
use Rattle.std.specs.Prelude.{◌≡◌, ℕ, false, List, [], ◌↔◌, IsTrue, is_none}
use Rattle.db_config.specs.declared.parts.LinkDef.{LinkDef}
use Rattle.db_config.specs.Names.{first_double, are_distinct}
use Rattle.db_config.specs.Above.{IsAbove, is_above, leads_round}

-- a level is above another exactly where a path of definitions leads down from it
abbrev pub AboveIsByPaths : Type 0
AboveIsByPaths =
    (defs : List LinkDef) (upper lower : ℕ) →
    IsTrue (is_above defs upper lower) ↔ IsAbove defs upper lower

-- no path of definitions leads from a level to itself
abbrev pub HasNoCycle : List LinkDef → Type 0
HasNoCycle defs = (level : ℕ) → IsAbove defs level level → ⊥

-- the test of a cycle finds one exactly where there is one
abbrev pub CyclesAreFound : Type 0
CyclesAreFound = (defs : List LinkDef) → leads_round defs ≡ false ↔ HasNoCycle defs

-- a name stands twice exactly where the names are not distinct
abbrev pub DoublesAreFound : Type 0
DoublesAreFound = (names : List (List ℕ)) → is_none (first_double [] names) ≡ are_distinct names
