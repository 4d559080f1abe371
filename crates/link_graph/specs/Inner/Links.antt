-- What the list of links and its index keep.
use Rattle.std.specs.Prelude.{List, ◌≤◌, length}
use Rattle.emu_names.specs.declared.limits.TheConstants.{BUNDLE_LINKS}
use Rattle.link_graph.specs.declared.link.Link.{Link}
use Rattle.link_graph.specs.declared.index.Index.{Index}
use Rattle.link_graph.specs.Inner.Index.{Indexes}
use Rattle.link_graph.specs.Link.{ArePairsApart}

-- the pairs of ids are apart, there are not too many, and the index is that of the list
pub record AreLinks (links : List Link) (index : Index) : Type 0 where
  pub apart : ArePairsApart links
  pub limit : length links ≤ BUNDLE_LINKS
  pub indexed : Indexes index links
