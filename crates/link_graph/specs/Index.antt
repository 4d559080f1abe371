-- What the index of a list of links holds: the links of each item, and the pairs of ids.
use Rattle.std.specs.Prelude.{ℕ, Bool, ◌==◌, ◌&&◌}
use Rattle.link_graph.specs.declared.link.Link.{Link}

-- whether a link has this pair of ids
abbrev pub is_pair : ℕ → ℕ → Link → Bool
is_pair from to link = (link.from.0 == from) && (link.to.0 == to)
