use Rattle.std.proofs.Common.{◌≡◌, drop}
use Rattle.std.specs.List.{list_any}
use Rattle.db_config.specs.Valid.{same_levels}
use Rattle.db_config.proofs.rules.has_levels.Given as goal

-- one of all has the levels where one of the rest has
abbrev pub invariant-loop-other : goal.invariant-loop-other
invariant-loop-other l = list_any (same_levels l.def) (drop l.other-index l.links) ≡ list_any (same_levels l.def) l.links
