use Rattle.std.proofs.Common.{◌≡◌, ◌++◌, drop}
use Rattle.link_graph.specs.Link.{names_item}
use Rattle.edit_undo.specs.Inner.Links.{again_from}
use Rattle.edit_undo.proofs.link_edits.all_named.Given as goal

-- the edits so far, and those of the links that are left, are those of all links
abbrev pub invariant-loop-place : goal.invariant-loop-place
invariant-loop-place l = l.made ++ again_from l.key (names_item l.id) l.place (drop l.place l.links) ≡ again_from l.key (names_item l.id) 0 l.links
