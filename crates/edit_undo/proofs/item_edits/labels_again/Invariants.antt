use Rattle.std.proofs.Common.{◌≡◌, take}
use Rattle.edit_undo.specs.Inner.Items.{labels_from}
use Rattle.edit_undo.proofs.item_edits.labels_again.Given as goal

abbrev pub invariant-loop-label : goal.invariant-loop-label
invariant-loop-label l = l.made ≡ labels_from l.key l.id (take l.label-index l.labels)
