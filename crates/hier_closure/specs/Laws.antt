-- What the test of dominance comes to, each law said by itself.
use Rattle.std.specs.Prelude.{◌≡◌, ℕ, true, List, ◌↔◌, IsTrue, Some}
use Rattle.std.specs.List.{list_any, slice_get}
use Rattle.std.specs.Option.{option_and_then}
use Rattle.emu_names.specs.declared.kinds.ItemId.{ItemId}
use Rattle.link_graph.specs.declared.link.Link.{Link}
use Rattle.link_graph.specs.Link.{children_of}
use Rattle.bundle_state.specs.Bundle.{BundleParts}
use Rattle.hier_closure.specs.Dominance.{Dominates, dominates, is_or_dominates, ids_at, closure_of}

-- the test passes exactly where a list of ids leads down from the one item to the other
abbrev pub DominanceIsByChains : Type 0
DominanceIsByChains =
    (links : List Link) (a b : ℕ) → IsTrue (dominates links a b) ↔ Dominates links a b

-- an item dominates another exactly where a link leads to it, or to some item that dominates it
abbrev pub DominanceIsByFirstLinks : Type 0
DominanceIsByFirstLinks =
    (links : List Link) (a : ItemId) (b : ℕ) →
    dominates links a.0 b ≡ list_any (is_or_dominates links b) (children_of a links)

-- bit j of row i is set exactly where item i of the upper level dominates item j of the lower one
abbrev pub BitsAreDominance : Type 0
BitsAreDominance =
    (bundle : BundleParts) (upper lower i j a b : ℕ) →
    slice_get (ids_at bundle.levels upper) i ≡ Some a →
    slice_get (ids_at bundle.levels lower) j ≡ Some b →
    option_and_then (λ row. slice_get row j) (slice_get (closure_of bundle lower upper) i) ≡ Some true
    ↔ Dominates bundle.links a b
