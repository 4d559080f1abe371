use denote.Param.Send.{IsSend, sendable}
use denote.Param.SendFields.{declared_send}
use Rattle.std.proofs.Crossing.{crosses}
use Rattle.eql_syntax.proofs.Threads.{query_send}
use Rattle.label_match.proofs.Threads.{pattern_send}
use Rattle.test_eql.specs.contracts.threads.Question as question
use Rattle.test_eql.proofs.threads.questions_go_to_a_thread.Goals as goal

question_send : IsSend question.the_row
question_send = declared_send question.the_type (query_send, (search (pattern_send, crosses) depth 20, tt))

pub spawn-requires-send-F : goal.spawn-requires-send-F
spawn-requires-send-F g c κs = search (question_send, crosses, sendable) depth 20
