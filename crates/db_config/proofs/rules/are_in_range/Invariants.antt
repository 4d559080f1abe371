use Rattle.std.proofs.Common.{◌≡◌, drop}
use Rattle.std.specs.List.{list_all}
use Rattle.db_config.specs.Valid.{is_in_range}
use Rattle.db_config.proofs.rules.are_in_range.Given as goal

-- all are in range where the rest is
abbrev pub invariant-loop-def : goal.invariant-loop-def
invariant-loop-def l = list_all (is_in_range l.count) (drop l.def-index l.links) ≡ list_all (is_in_range l.count) l.links
