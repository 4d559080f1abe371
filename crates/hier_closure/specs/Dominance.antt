-- When an item dominates another (EMU-SDMS Manual, "The EMU Query Language (EQL)": the hierarchical
-- operator), by the ids of the items and the links of their bundle.
use Rattle.std.specs.Prelude.{◌≡◌, ℕ, Bool, true, false, ◌&&◌, ◌||◌, ◌==◌, List, [], ◌∷◌, ◌++◌, map}
use Rattle.std.specs.List.{list_any, slice_get}
use Rattle.std.specs.Option.{option_map_or}
use Rattle.emu_names.specs.declared.kinds.ItemId.{ItemId}
use Rattle.level_items.specs.Levels.{Level, ids_of}
use Rattle.link_graph.specs.declared.link.Link.{Link}
use Rattle.link_graph.specs.Index.{is_pair}
use Rattle.bundle_state.specs.Bundle.{BundleParts}

-- whether a link leads from the one id to the other
abbrev pub links_to : List Link → ℕ → ℕ → Bool
links_to links a b = list_any (is_pair a b) links

-- each neighbouring pair of these ids is a link
abbrev pub IsChain : List Link → List ℕ → Type 0
IsChain links [] = Unit {0}
IsChain links (a ∷ []) = Unit {0}
IsChain links (a ∷ b ∷ ids) = (links_to links a b ≡ true) × IsChain links (b ∷ ids)

-- a list of two or more ids begins with the one and ends with the other, and each neighbouring pair of
-- it is a link
pub record Dominates (links : List Link) (a b : ℕ) : Type 0 where
  pub between : List ℕ
  pub chain : IsChain links (a ∷ between ++ b ∷ [])

-- the same as a test: such a list either goes round a link, or goes through it once
abbrev pub dominates : List Link → ℕ → ℕ → Bool
dominates [] a b = false
dominates (link ∷ links) a b =
    dominates links a b
    || (((link.from.0 == a) || dominates links a link.from.0)
    && ((link.to.0 == b) || dominates links link.to.0 b))

-- whether an item is the other, or dominates it
abbrev pub is_or_dominates : List Link → ℕ → ItemId → Bool
is_or_dominates links b item = (item.0 == b) || dominates links item.0 b

-- the ids of the items of a level, in order
abbrev pub ids_at : List Level → ℕ → List ℕ
ids_at levels number = option_map_or (λ level. ids_of level.items) (slice_get levels number) []

-- for each lower item, whether an upper one dominates it
abbrev pub closure_row : List Link → List ℕ → ℕ → List Bool
closure_row links lowers upper = map (dominates links upper) lowers

-- one such row for each upper item
abbrev pub closure_rows : List Link → List ℕ → List ℕ → List (List Bool)
closure_rows links lowers uppers = map (closure_row links lowers) uppers

-- bit j of row i says whether item i of the upper level dominates item j of the lower one
abbrev pub closure_of : BundleParts → ℕ → ℕ → List (List Bool)
closure_of bundle lower upper =
    closure_rows bundle.links (ids_at bundle.levels lower) (ids_at bundle.levels upper)
