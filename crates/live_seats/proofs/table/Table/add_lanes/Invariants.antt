use Rattle.std.proofs.Common.{List, map, take}
use Rattle.query_workers.specs.session_core.Worlds.{Each}
use Rattle.live_laws.specs.Lanes.{Step}
use Rattle.live_seats.specs.Inner.Tables.{KeepsTelling, TellsStep}
use Rattle.live_seats.proofs.table.Table.add_lanes.Given as goal

-- the lanes so far are told
abbrev pub invariant-loop-steps : goal.invariant-loop-steps
invariant-loop-steps g l = record {
  told : Each (λ (steps : List Step). Each (TellsStep l.self) steps) (take l.steps-index (map (λ v. v.items) l.lanes));
  keeps : KeepsTelling l.fn.self l.self;
}
