-- Words of contracts and loops beside `specs/Index.antt`; no promise of the program rests on them.
use Rattle.std.specs.Prelude.{◌≡◌, ℕ, Bool, List, [], ◌∷◌, Option, None, Some, ◌==◌, ◌&&◌, nat_eq, not, if◌then◌else◌}
use Rattle.std.specs.List.{filter, list_any}
use Rattle.std.specs.HashMap.{get}
use Rattle.std.specs.Option.{is_some}
use Rattle.emu_names.specs.declared.kinds.ItemId.{ItemId}
use Rattle.link_graph.specs.declared.link.Link.{Link}
use Rattle.link_graph.specs.Link.{names_item}
use Rattle.link_graph.specs.declared.by_item.ByItem.{ByItem}
use Rattle.link_graph.specs.declared.item_links.ItemLinks.{ItemLinks}
use Rattle.link_graph.specs.declared.item_links.ItemLinks.TheVariants.{Empty, One, Many}
use Rattle.link_graph.specs.declared.pairs.Pairs.{Pairs}
use Rattle.link_graph.specs.declared.index.Index.{Index}
use Rattle.link_graph.specs.Index.{is_pair}

-- the links of an item, in the order in which they were added
abbrev pub links_of : ItemLinks → List Link
links_of Empty = []
links_of (One link) = link ∷ []
links_of (Many links) = links.value.items

-- the links, or none where there is no entry
abbrev pub elements : Option ItemLinks → List Link
elements None = []
elements (Some links) = links_of links

-- the links that are kept at an item's id
abbrev pub links_at : ByItem → ℕ → List Link
links_at by_item id = elements (get nat_eq by_item.lists id)

-- the links without those that name an item, where that is wanted
abbrev pub forgotten : Bool → ItemId → List Link → List Link
forgotten wanted id links =
    if wanted then filter (λ link. not (names_item id link)) links else links

-- whether the pair of ids is kept
abbrev pub has_pair : Pairs → ℕ → ℕ → Bool
has_pair pairs from to = is_some (get (λ a b. nat_eq a.0 b.0 && nat_eq a.1 b.1) pairs.blocks (from, to))

-- the index holds what the list has, and no more
pub record Indexes (index : Index) (links : List Link) : Type 0 where
  pub down : (id : ℕ) → links_at index.down id ≡ filter (λ link. link.from.0 == id) links
  pub up : (id : ℕ) → links_at index.up id ≡ filter (λ link. link.to.0 == id) links
  pub pairs : (from to : ℕ) →
      has_pair index.pairs from to
      ≡ list_any (is_pair from to) links
