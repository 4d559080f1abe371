use Rattle.std.proofs.Common.{◌≡◌, map, take}
use Rattle.annot_json.specs.Given.{given_item}
use Rattle.edit_undo.proofs.annot.given_items.Given as goal

abbrev pub invariant-loop-item : goal.invariant-loop-item
invariant-loop-item l = l.made ≡ map (given_item l.defs) (take l.item-index l.items)
