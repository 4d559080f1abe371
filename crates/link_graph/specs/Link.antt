-- Which links a list has of two items or of one, and the first rule that a new link breaks.
use Rattle.std.specs.Prelude.{ℕ, Bool, List, map, Option, None, Some, ◌==◌, ◌&&◌, ◌||◌, nat_le, length, if◌then◌else◌, option_map}
use Rattle.std.specs.List.{filter, find, list_any, IsDistinct}
use Rattle.std.specs.Option.{option_or}
use Rattle.emu_names.specs.declared.limits.TheConstants.{BUNDLE_LINKS}
use Rattle.emu_names.specs.declared.kinds.ItemId.{ItemId}
use Rattle.emu_names.specs.declared.kinds.LinkKind.{LinkKind}
use Rattle.emu_names.specs.declared.kinds.LinkKind.TheVariants.{OneToOne, OneToMany, ManyToMany}
use Rattle.emu_names.specs.declared.rules.Broken.{Broken}
use Rattle.emu_names.specs.declared.rules.Broken.TheVariants.{LinkExists, TooMany, OneParent, OneChild}
use Rattle.emu_names.specs.declared.rules.What.TheVariants.{BundleLinks}
use Rattle.link_graph.specs.declared.link.Link.{Link}

-- a link of a definition from one item to another
abbrev pub link_of : ℕ → ItemId → ItemId → Link
link_of definition from to = record { definition = definition; from = from; to = to }

-- whether a link leads from the one item to the other
abbrev pub joins : ItemId → ItemId → Link → Bool
joins from to link = (link.from.0 == from.0) && (link.to.0 == to.0)

-- whether a link names an item, at either end
abbrev pub names_item : ItemId → Link → Bool
names_item id link = (link.from.0 == id.0) || (link.to.0 == id.0)

-- no pair of ids stands twice
abbrev pub ArePairsApart : List Link → Type 0
ArePairsApart links = IsDistinct (λ a b. joins a.from a.to b) links

-- the items that an item links to, in the order of the list
abbrev pub children_of : ItemId → List Link → List ItemId
children_of id links = map (λ link. link.to) (filter (λ link. link.from.0 == id.0) links)

-- the parent that an item has by a definition, which a second one would break the rule of
abbrev pub parent_fault : ℕ → ItemId → List Link → Option Broken
parent_fault definition to links =
    option_map (λ link. OneParent link.from)
    (find (λ link. (link.definition == definition) && (link.to.0 == to.0)) links)

-- the child that an item has by a definition, which a second one would break the rule of
abbrev pub child_fault : ℕ → ItemId → List Link → Option Broken
child_fault definition from links =
    option_map (λ link. OneChild link.to)
    (find (λ link. (link.definition == definition) && (link.from.0 == from.0)) links)

-- the first rule of a kind of definition that a new link of the definition breaks
abbrev pub kind_fault : LinkKind → ℕ → ItemId → ItemId → List Link → Option Broken
kind_fault OneToOne definition from to links =
    option_or (parent_fault definition to links) (child_fault definition from links)
kind_fault OneToMany definition from to links = parent_fault definition to links
kind_fault ManyToMany definition from to links = None

-- the first rule that a new link breaks
abbrev pub add_fault : LinkKind → ℕ → ItemId → ItemId → List Link → Option Broken
add_fault kind definition from to links =
    if list_any (joins from to) links then Some LinkExists
    else (if nat_le BUNDLE_LINKS (length links) then Some (TooMany BundleLinks)
    else kind_fault kind definition from to links)
