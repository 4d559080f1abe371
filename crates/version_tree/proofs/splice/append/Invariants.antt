use Rattle.std.proofs.Common.{◌≡◌, ◌++◌, take}
use Rattle.version_tree.proofs.splice.append.Given as goal

-- the elements so far stand behind those that were there
abbrev pub invariant-loop-item : goal.invariant-loop-item
invariant-loop-item g l = l.made ≡ l.fn.made ++ take l.item-index l.items
