use Rattle.std.proofs.Common.{take}
use Rattle.query_workers.specs.session_core.Worlds.{Each}
use Rattle.live_seats.specs.Inner.Tables.{KeepsTelling, TellsStep}
use Rattle.live_seats.proofs.table.Table.add_lane.Given as goal

-- the steps so far are told
abbrev pub invariant-loop-answered : goal.invariant-loop-answered
invariant-loop-answered g l = record {
  told : Each (TellsStep l.self) (take l.answered-index l.steps);
  keeps : KeepsTelling l.fn.self l.self;
}
