use Rattle.std.proofs.Common.{◌≡◌, ◌++◌, take, codes}
use Rattle.std.specs.List.{flat_map}
use Rattle.std.specs.String.{string_bytes}
use Rattle.level_items.specs.declared.items.Item.{Item}
use Rattle.level_items.specs.Levels.{label_of}
use Rattle.eql_rows.proofs.items.push_labels.Given as goal

-- the labels of the items so far, each behind its sign
abbrev pub invariant-loop-item : goal.invariant-loop-item
invariant-loop-item l =
    string_bytes l.out ≡ string_bytes l.initial.out ++ flat_map (λ (i : Item). codes "->" ++ label_of l.attribute i) (take l.item-index l.others)
