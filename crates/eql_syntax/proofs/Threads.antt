-- What may be sent to a thread, and what threads may share.
use denote.Param.Send.{IsSend, IsSync, sendable}
use Rattle.std.proofs.Crossing.{crosses}
use Rattle.emu_names.proofs.texts.Text.TheSendSync as text
use Rattle.eql_syntax.proofs.query.Query.TheLaws.TheKnot.{send-Query, sync-Query}
use Rattle.eql_syntax.specs.contracts.query.Query as query

pub query_send : IsSend query.the_row
query_send = search (send-Query, text.the_send, crosses, sendable) depth 30

pub query_sync : IsSync query.the_row
query_sync = search (sync-Query, text.the_sync, crosses, sendable) depth 30
