use denote.Param.Send.{sendable}
use Rattle.eql_resolve.proofs.Threads.{prepared_send, prepared_sync}
use Rattle.eql_resolve.proofs.crossing.prepared_cross_threads.Goals as goal

pub crosses-requires-send-T : goal.crosses-requires-send-T
crosses-requires-send-T c κs = search (sendable, prepared_send)

pub crosses-requires-sync-T : goal.crosses-requires-sync-T
crosses-requires-sync-T c κs = search (sendable, prepared_sync)
