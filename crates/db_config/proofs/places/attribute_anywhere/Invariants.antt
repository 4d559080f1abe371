use Rattle.std.proofs.Common.{◌≡◌, drop}
use Rattle.db_config.specs.Lookups.{attribute_from}
use Rattle.db_config.proofs.places.attribute_anywhere.Given as goal

-- the first of all is that of the rest
abbrev pub invariant-loop-level : goal.invariant-loop-level
invariant-loop-level l = attribute_from l.level l.name (drop l.level l.levels) ≡ attribute_from 0 l.name l.levels
