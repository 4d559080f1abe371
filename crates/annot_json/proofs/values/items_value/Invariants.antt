use Rattle.annot_json.proofs.Shown.{AreShown}
use Rattle.annot_json.proofs.values.items_value.Given as goal

-- the values so far are those of the items
abbrev pub invariant-loop-item : goal.invariant-loop-item
invariant-loop-item l = AreShown l.defs l.values.items l.items l.item-index
