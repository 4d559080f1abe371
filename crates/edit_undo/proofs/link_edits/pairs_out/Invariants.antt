use Rattle.std.proofs.Common.{◌≡◌, take}
use Rattle.edit_undo.specs.Inner.Links.{pairs_from}
use Rattle.edit_undo.proofs.link_edits.pairs_out.Given as goal

abbrev pub invariant-loop-pair : goal.invariant-loop-pair
invariant-loop-pair l = l.first ≡ pairs_from l.key l.links (take l.pair-index l.pairs)
