-- A list of links in either of its forms.
use Rattle.std.specs.Prelude.{List, ◌≤◌, ◌<◌, length}
use Rattle.link_graph.specs.declared.forms.TheConstants.{FEW_LINKS}
use Rattle.link_graph.specs.declared.link.Link.{Link}
use Rattle.link_graph.specs.declared.forms.Kept.{Kept}
use Rattle.link_graph.specs.declared.forms.Kept.TheVariants.{Few, Many}
use Rattle.link_graph.specs.Link.{ArePairsApart}

-- the links
abbrev pub kept_links : Kept → List Link
kept_links (Few links) = links
kept_links (Many links) = links.value

-- few links, whose pairs of ids are apart
pub record AreFew (links : List Link) : Type 0 where
  pub apart : ArePairsApart links
  pub few : length links ≤ FEW_LINKS

-- what is kept of the list: of many links, their own type keeps it
abbrev pub AreKept : Kept → Type 0
AreKept (Few links) = AreFew links
AreKept (Many links) = Unit {0}

-- one link more is not too much for the form
abbrev pub HasRoom : Kept → Type 0
HasRoom (Few links) = length links < FEW_LINKS
HasRoom (Many links) = Unit {0}
