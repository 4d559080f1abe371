use Rattle.std.proofs.Common.{◌≡◌, ◌+◌, drop}
use Rattle.textgrid.specs.Levels.{levels_from}
use Rattle.textgrid.specs.Inner.Levels.{levels_before, entry_total}
use Rattle.textgrid.proofs.levels.levels.Given as goal

abbrev pub invariant-loop-index : goal.invariant-loop-index
invariant-loop-index l = record {
  count : l.before + entry_total (drop l.index l.tiers) ≡ entry_total l.tiers;
  same : levels_before l.levels (levels_from l.rate l.index l.before (drop l.index l.tiers)) ≡ levels_from l.rate 0 0 l.tiers;
}
