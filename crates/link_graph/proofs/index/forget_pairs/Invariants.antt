use Rattle.std.proofs.Common.{◌≡◌, ℕ, not, ◌&&◌, take}
use Rattle.std.specs.List.{list_any}
use Rattle.link_graph.specs.Index.{is_pair}
use Rattle.link_graph.specs.Inner.Index.{has_pair}
use Rattle.link_graph.proofs.index.forget_pairs.Given as goal

-- the pairs of the links so far are gone
abbrev pub invariant-loop-link : goal.invariant-loop-link
invariant-loop-link l =
    (a b : ℕ) → has_pair l.pairs a b ≡ (not (list_any (is_pair a b) (take l.link-index l.links)) && has_pair l.initial.pairs a b)
