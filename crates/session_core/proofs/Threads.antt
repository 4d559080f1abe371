-- What may be sent to a thread: a reply, whose rows are a text.
use denote.Enum.Enum.{Enum}
use denote.Enum.Declared.{shape}
use denote.Param.Send.{IsSend, sendable, recorded_send}
use denote.Param.SendFields.{declared_send}
use Rattle.std.proofs.Crossing.{crosses}
use Rattle.std.proofs.option.Option.TheSendSync as option
use Rattle.segment_list.proofs.Threads.{listing_send}
use Rattle.session_core.proofs.line.Command.TheSendSync as command
use Rattle.session_core.proofs.line.Refusal.TheSendSync as refusal
use Rattle.session_core.specs.contracts.line.Answer as answer
use Rattle.session_core.specs.contracts.line.Reply as reply

answer_choice : IsSend (Enum (shape answer.the_type))
answer_choice = search (listing_send, command.the_send, command.the_field_send, refusal.the_send, refusal.the_field_send, crosses, sendable) depth 30

answer_send : IsSend answer.the_row
answer_send = recorded_send _ _ _ (answer.the_type).to_one answer_choice

pub reply_send : IsSend reply.the_row
reply_send = declared_send reply.the_type (
  search (crosses, sendable) depth 20,
  (
    search (crosses, sendable) depth 20,
    (search (option.the_send, option.the_field_send, crosses, sendable) depth 20, (search (answer_send, crosses, sendable) depth 20, tt)),
  ),
)
