use Rattle.std.proofs.Common.{◌≡◌, ◌-◌}
use Rattle.textgrid.specs.Reading.{times_at, tier_at}
use Rattle.textgrid.specs.Inner.Reading.{behind}
use Rattle.textgrid.proofs.tiers.tiers.Given as goal

abbrev pub invariant-loop : goal.invariant-loop
invariant-loop l = behind l.made (times_at tier_at (l.count - l.counter) l.values) ≡ times_at tier_at l.count l.initial.values
