use Rattle.std.proofs.Common.{◌≡◌, ◌≤◌, ◌-◌, length, drop}
use Rattle.std.specs.Prelude.{All}
use Rattle.textgrid.specs.Inner.Short.{IsShortPlaced}
use Rattle.textgrid.specs.Values.{values_from, values_of}
use Rattle.textgrid.specs.Inner.Values.{joined}
use Rattle.textgrid.proofs.scan.read_values.Given as goal

abbrev pub invariant-loop-at : goal.invariant-loop-at
invariant-loop-at l = record {
  within : l.at ≤ length l.text;
  short : All IsShortPlaced l.values;
  few : length l.values ≤ l.at;
  same : joined l.values (values_from (drop l.at l.text) 0 l.at) ≡ values_of l.text;
}

abbrev pub decreases-loop-at : goal.decreases-loop-at
decreases-loop-at l = length l.text - l.at
