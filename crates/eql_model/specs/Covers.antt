-- When one of two stretches of items covers the other (EMU-SDMS Manual, "The EMU Query Language (EQL)":
-- dominance).
use Rattle.std.specs.Prelude.{ℕ, Bool, ◌||◌, List}
use Rattle.std.specs.List.{list_all, list_any}
use Rattle.link_graph.specs.declared.link.Link.{Link}
use Rattle.hier_closure.specs.Dominance.{dominates}
use Rattle.eql_tuples.specs.declared.tuple.Tuple.{Tuple}
use Rattle.eql_tuples.specs.Tuples.{stretch}

-- these ids cover those: each of those is dominated by some of these
abbrev pub covers : List Link → List ℕ → List ℕ → Bool
covers links uppers lowers = list_all (λ x. list_any (λ a. dominates links a x) uppers) lowers

-- the one of two tuples covers the other, where these are the ids on the level of each
abbrev pub one_covers : List Link → List ℕ → List ℕ → Tuple → Tuple → Bool
one_covers links lefts rights left right =
    covers links (stretch lefts left) (stretch rights right)
    || covers links (stretch rights right) (stretch lefts left)
