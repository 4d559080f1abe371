use Rattle.std.proofs.Common.{◌≡◌, drop, take}
use Rattle.db_config.specs.Names.{first_double}
use Rattle.db_config.proofs.names.first_double.Given as goal

-- the first double of all is that of the rest behind those seen
abbrev pub invariant-loop-place : goal.invariant-loop-place
invariant-loop-place l = first_double (take l.place l.names) (drop l.place l.names) ≡ first_double (take l.from l.names) (drop l.from l.names)
