use denote.Param.Send.{IsSync, sendable}
use denote.Param.SendFields.{declared_sync}
use Rattle.std.proofs.Crossing.{crosses}
use Rattle.eql_syntax.proofs.Threads.{query_sync}
use Rattle.label_match.proofs.Threads.{pattern_sync}
use Rattle.test_eql.specs.contracts.threads.Question as question
use Rattle.test_eql.proofs.threads.threads_share_a_question.Goals as goal

question_sync : IsSync question.the_row
question_sync = declared_sync question.the_type (query_sync, (search (pattern_sync, crosses) depth 20, tt))

pub join-here-requires-send-F : goal.join-here-requires-send-F
join-here-requires-send-F g c κs within = search (question_sync, crosses, sendable) depth 20
