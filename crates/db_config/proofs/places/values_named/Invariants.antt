use Rattle.std.proofs.Common.{◌≡◌, drop}
use Rattle.db_config.specs.Lookups.{values_named}
use Rattle.db_config.proofs.places.values_named.Given as goal

-- the first of all is that of the rest
abbrev pub invariant-loop-group : goal.invariant-loop-group
invariant-loop-group l = values_named l.name (drop l.group-index l.groups) ≡ values_named l.name l.groups
