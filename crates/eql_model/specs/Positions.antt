-- Where an item stands among those of its level below an item of an upper level, and how many items an
-- item dominates (EMU-SDMS Manual, "The EMU Query Language (EQL)": position and count functions).
use Rattle.std.specs.Prelude.{ℕ, Bool, true, false, ◌&&◌, not, ◌==◌, List, [], ◌∷◌, length, nat_le, nat_lt}
use Rattle.std.specs.List.{filter, list_any}
use Rattle.link_graph.specs.declared.link.Link.{Link}
use Rattle.hier_closure.specs.Dominance.{dominates}
use Rattle.eql_syntax.specs.declared.query.Compare.{Compare}
use Rattle.eql_syntax.specs.declared.query.Compare.TheVariants.{Eq, Ne, Lt, Le, Gt, Ge}
use Rattle.eql_syntax.specs.declared.query.Place.{Place}
use Rattle.eql_syntax.specs.declared.query.Place.TheVariants.{Start, Medial, End}

-- the items of a level, by their ids, that an item dominates
abbrev pub below : List Link → List ℕ → ℕ → List ℕ
below links lowers a = filter (dominates links a) lowers

-- an item is the first of these
abbrev pub is_first : List ℕ → ℕ → Bool
is_first [] x = false
is_first (y ∷ ys) x = y == x

-- an item is the last of these
abbrev pub is_last : List ℕ → ℕ → Bool
is_last [] x = false
is_last (y ∷ []) x = y == x
is_last (y ∷ z ∷ zs) x = is_last (z ∷ zs) x

-- an item stands at the place among these
abbrev pub stands : Place → List ℕ → ℕ → Bool
stands Start items x = is_first items x
stands Medial items x = not (is_first items x) && not (is_last items x)
stands End items x = is_last items x

-- an item of the upper level dominates another and makes it stand at the place
abbrev pub makes_stand : List Link → List ℕ → Place → ℕ → ℕ → Bool
makes_stand links lowers place x a = dominates links a x && stands place (below links lowers a) x

-- the test with 1: some item of the upper level makes it stand there; the test with 0: some item of the
-- upper level dominates it, and none makes it stand there
abbrev pub has_place : List Link → List ℕ → List ℕ → Place → Bool → ℕ → Bool
has_place links uppers lowers place true x = list_any (makes_stand links lowers place x) uppers
has_place links uppers lowers place false x =
    list_any (λ a. dominates links a x) uppers
    && not (list_any (makes_stand links lowers place x) uppers)

-- how two numbers compare
abbrev pub compares : Compare → ℕ → ℕ → Bool
compares Eq m n = m == n
compares Ne m n = not (m == n)
compares Lt m n = nat_lt m n
compares Le m n = nat_le m n
compares Gt m n = nat_lt n m
compares Ge m n = nat_le n m

-- how the number of items that an item dominates compares with a number
abbrev pub has_number : List Link → List ℕ → Compare → ℕ → ℕ → Bool
has_number links lowers compare number a = compares compare (length (below links lowers a)) number
