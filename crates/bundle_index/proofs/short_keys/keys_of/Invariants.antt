use Rattle.std.proofs.Common.{◌≡◌, length, take}
use Rattle.std.specs.List.{AllZip}
use Rattle.bundle_index.specs.Inner.Keys.{IsKeyOf}
use Rattle.bundle_index.proofs.short_keys.keys_of.Given as goal

abbrev pub invariant-loop-place : goal.invariant-loop-place
invariant-loop-place l = record {
  count : length l.keys ≡ l.place;
  each : AllZip IsKeyOf (take l.place l.labels) l.keys;
}
