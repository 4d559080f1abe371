use Rattle.std.proofs.Common.{◌≡◌, take}
use Rattle.bundle_state.specs.Bundle.{item_count}
use Rattle.bundle_state.proofs.bundle.Bundle.item_count.Given as goal

abbrev pub invariant-loop-level : goal.invariant-loop-level
invariant-loop-level l = l.count ≡ item_count (take l.level-index l.level-items)
