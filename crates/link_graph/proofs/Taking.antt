-- The list of links while some are taken out.
use Rattle.std.proofs.Common.{◌≡◌, ℕ, not, List, take}
use Rattle.std.specs.List.{filter}
use Rattle.link_graph.specs.declared.link.Link.{Link}
use Rattle.link_graph.specs.Link.{ArePairsApart}
use Rattle.link_graph.specs.Inner.Link.{is_among}

-- the links without the first ends, whose pairs are apart
pub record AreLeft (ends links now : List Link) (place : ℕ) : Type 0 where
  pub left : now ≡ filter (λ l. not (is_among (take place ends) l)) links
  pub apart : ArePairsApart now
