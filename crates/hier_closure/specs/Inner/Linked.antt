-- Which items of a level link to which of another.
use Rattle.std.specs.Prelude.{◌≡◌, ℕ, Bool, true, false, List, Some, All, get_or, map}
use Rattle.level_items.specs.Levels.{Level}
use Rattle.link_graph.specs.declared.link.Link.{Link}
use Rattle.bundle_state.specs.Bundle.{BundleParts, level_of_id}
use Rattle.bundle_state.specs.Valid.{KeepsBundleRules}
use Rattle.hier_closure.specs.Dominance.{links_to, ids_at}
use Rattle.hier_closure.specs.declared.linked.LinkedLevels.{LinkedLevels}

-- for each lower item, whether a link leads to it from an upper one
abbrev pub linked_row : List Link → List ℕ → ℕ → List Bool
linked_row links lowers upper = map (links_to links upper) lowers

-- one such row for each item of the upper level
abbrev pub linked_of : BundleParts → ℕ → ℕ → List Link → List (List Bool)
linked_of bundle upper lower links =
    map (linked_row links (ids_at bundle.levels lower)) (ids_at bundle.levels upper)

-- a link does not lead from the one level to the other
abbrev pub LeadsAside : BundleParts → ℕ → ℕ → Link → Type 0
LeadsAside bundle upper lower link =
    level_of_id bundle.levels link.from.0 ≡ Some upper → level_of_id bundle.levels link.to.0 ≡ Some lower → ⊥

-- the bundle keeps its rules, and these rows are those of its links
pub record AreLinkedIn (bundle : BundleParts) (all : List LinkedLevels) : Type 0 where
  pub rules : KeepsBundleRules bundle
  pub each : All (λ one. one.closure ≡ linked_of bundle one.upper one.lower bundle.links) all

-- on each level that is not marked the items have the same ids, in the same order
abbrev pub HaveSameIdsBut : List Bool → List Level → List Level → Type 0
HaveSameIdsBut marked old new = (k : ℕ) → get_or marked k false ≡ false → ids_at new k ≡ ids_at old k

-- and so have they on each level that is marked
abbrev pub HaveSameIdsOn : List Bool → List Level → List Level → Type 0
HaveSameIdsOn marked old new = (k : ℕ) → get_or marked k false ≡ true → ids_at new k ≡ ids_at old k

-- two bundles have the same links, and on each marked level items with the same ids
pub record AreAlike (marked : List Bool) (old new : BundleParts) : Type 0 where
  pub links : new.links ≡ old.links
  pub ids : HaveSameIdsOn marked old.levels new.levels
