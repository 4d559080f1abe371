use Rattle.db_config.proofs.Tables.{IsTested}
use Rattle.db_config.proofs.paths.leads_round.Given as goal

-- some of all leads round where one of the rest does
abbrev pub invariant-loop-def : goal.invariant-loop-def
invariant-loop-def l = IsTested l.defs l.count l.def-index
