use denote.Param.Send.{sendable}
use Rattle.label_match.proofs.Threads.{pattern_send, pattern_sync}
use Rattle.label_match.proofs.pattern.patterns_cross_threads.Goals as goal

pub crosses-requires-send-T : goal.crosses-requires-send-T
crosses-requires-send-T c κs = search (sendable, pattern_send)

pub crosses-requires-sync-T : goal.crosses-requires-sync-T
crosses-requires-sync-T c κs = search (sendable, pattern_sync)
