-- What a clone of the links of each item holds.
use Rattle.std.proofs.Common.{◌≡◌, ℕ, List, Option, None, Some, MatchOption, IsSomeAnd, ap}
use Rattle.std.specs.List.{AllZip}
use Rattle.std.specs.Map.{lookup}
use Rattle.std.specs.Prelude.{nat_eq}
use Rattle.std.proofs.lemmas.Map.Entries.{lookup_clone}
use Rattle.link_graph.specs.declared.item_links.ItemLinks.{ItemLinks}
use Rattle.link_graph.specs.Inner.Index.{elements, links_of}

-- the links at an id, where each key is cloned as itself
pub elements_same : (C : ℕ → ℕ → Type 0) (D : ItemLinks → ItemLinks → Type 0) (id : ℕ) (es fs : List (ℕ × ItemLinks)) →
    AllZip (λ p q. C p.0 q.0 × D p.1 q.1) es fs → ((x y : ℕ) → C x y → y ≡ x) → ((v w : ItemLinks) → D v w → links_of w ≡ links_of v) →
    elements (lookup (nat_eq id) fs) ≡ elements (lookup (nat_eq id) es)
elements_same C D id es fs zip keys lists =
    at_id _ _ (lookup_clone C D (nat_eq id) (λ x y k. ap (nat_eq id) (keys x y k)) es fs zip)
  where
    at_id : (o p : Option ItemLinks) → MatchOption o (p ≡ None) (λ v. IsSomeAnd p (D v)) → elements p ≡ elements o
    at_id None p h = ap elements h
    at_id (Some v) None h = absurd h
    at_id (Some v) (Some w) h = lists v w h
