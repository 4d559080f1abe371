use Rattle.std.proofs.Common.{◌≡◌, ℕ, ◌==◌, take}
use Rattle.std.specs.List.{list_any}
use Rattle.link_graph.specs.Inner.Ends.{other_end}
use Rattle.link_graph.specs.Inner.Index.{links_at, forgotten}
use Rattle.link_graph.proofs.index.forget.Given as goal

abbrev pub invariant-loop-link : goal.invariant-loop-link
invariant-loop-link l =
    (key : ℕ) → links_at l.map key ≡ forgotten (list_any (λ link. (other_end l.end link).0 == key) (take l.link-index l.links)) l.id (links_at l.initial.map key)
