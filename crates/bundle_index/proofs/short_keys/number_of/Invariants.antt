use Rattle.std.proofs.Common.{◌≡◌, ◌≤◌, length, drop}
use Rattle.bundle_index.specs.Inner.Keys.{AreBytes, number_of}
use Rattle.bundle_index.proofs.short_keys.number_of.Given as goal

abbrev pub invariant-loop-left : goal.invariant-loop-left
invariant-loop-left l = record {
  within : l.left ≤ length l.bytes;
  number : l.number ≡ number_of (drop l.left l.bytes);
  bytes : AreBytes (drop l.left l.bytes);
}

abbrev pub decreases-loop-left : goal.decreases-loop-left
decreases-loop-left l = l.left
