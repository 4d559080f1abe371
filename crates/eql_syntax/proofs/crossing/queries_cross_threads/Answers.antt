use denote.Param.Send.{sendable}
use Rattle.eql_syntax.proofs.Threads.{query_send, query_sync}
use Rattle.eql_syntax.proofs.crossing.queries_cross_threads.Goals as goal

pub crosses-requires-send-T : goal.crosses-requires-send-T
crosses-requires-send-T c κs = search (sendable, query_send)

pub crosses-requires-sync-T : goal.crosses-requires-sync-T
crosses-requires-sync-T c κs = search (sendable, query_sync)
