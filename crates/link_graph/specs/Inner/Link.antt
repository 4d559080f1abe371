-- Words of contracts and loops beside `specs/Link.antt`; no promise of the program rests on them.
use Rattle.std.specs.Prelude.{◌≡◌, ℕ, Bool, true, false, List, map, Option, None, Some, ◌==◌}
use Rattle.std.specs.List.{filter, list_any, slice_get}
use Rattle.emu_names.specs.declared.kinds.ItemId.{ItemId}
use Rattle.link_graph.specs.declared.link.Link.{Link}
use Rattle.link_graph.specs.Link.{joins}

-- whether a link has the pair of ids of one of these
abbrev pub is_among : List Link → Link → Bool
is_among ends link = list_any (λ e. joins e.from e.to link) ends

-- the items that link to an item, in the order of the list
abbrev pub parents_of : ItemId → List Link → List ItemId
parents_of id links = map (λ link. link.from) (filter (λ link. link.to.0 == id.0) links)

-- the place of the link of a pair, or that there is none
abbrev pub IsPairPlace : ItemId → ItemId → List Link → Option ℕ → Type 0
IsPairPlace from to links None = list_any (joins from to) links ≡ false
IsPairPlace from to links (Some place) = (link : Link) × (slice_get links place ≡ Some link) × (joins from to link ≡ true)
