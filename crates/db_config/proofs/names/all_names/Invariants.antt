use Rattle.std.proofs.Common.{◌≡◌, take}
use Rattle.std.specs.List.{flat_map}
use Rattle.db_config.specs.Names.{names_of}
use Rattle.db_config.proofs.names.all_names.Given as goal

-- the names of the levels so far
abbrev pub invariant-loop-level : goal.invariant-loop-level
invariant-loop-level l = l.names ≡ flat_map names_of (take l.level-index l.levels)
