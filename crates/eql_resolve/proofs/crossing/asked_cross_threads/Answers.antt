use denote.Param.Send.{sendable}
use Rattle.eql_resolve.proofs.Threads.{asked_send, asked_sync}
use Rattle.eql_resolve.proofs.crossing.asked_cross_threads.Goals as goal

pub crosses-requires-send-T : goal.crosses-requires-send-T
crosses-requires-send-T c κs = search (sendable, asked_send)

pub crosses-requires-sync-T : goal.crosses-requires-sync-T
crosses-requires-sync-T c κs = search (sendable, asked_sync)
