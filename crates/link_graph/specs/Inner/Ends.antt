-- The ends of a link.
use Rattle.std.specs.Prelude.{◌≡◌, ℕ, Bool, List, ◌==◌}
use Rattle.std.specs.List.{filter}
use Rattle.emu_names.specs.declared.kinds.ItemId.{ItemId}
use Rattle.link_graph.specs.declared.link.Link.{Link}
use Rattle.link_graph.specs.declared.ends.End.{End}
use Rattle.link_graph.specs.declared.ends.End.TheVariants.{From, To}

-- the item at the other end
abbrev pub other_end : End → Link → ItemId
other_end From link = link.to
other_end To link = link.from

-- whether the link has this id at that end
abbrev pub has_end : End → ℕ → Link → Bool
has_end From id link = link.from.0 == id
has_end To id link = link.to.0 == id

-- of two lists, the links with this id at that end are the same
abbrev pub AreSameAt : End → ℕ → List Link → List Link → Type 0
AreSameAt end id near links = filter (has_end end id) near ≡ filter (has_end end id) links
