-- What a line is told by whoever runs it over a book: what a commit answered, or that memory ran out. These are words of
-- contracts; no promise of the program rests on them.
use Rattle.std.specs.Prelude.{ℕ, Some, None, Result, Ok, Err}
use Rattle.emu_names.specs.declared.shortage.Memory.{Memory}
use Rattle.edit_undo.specs.edit_rules.declared.commit_fault.EditFault.{EditFault}
use Rattle.edit_undo.specs.edit_rules.declared.commit_fault.EditFault.TheVariants as faults
use Rattle.session_core.specs.declared.head.Head.{Head}
use Rattle.session_core.specs.declared.line.Answer.TheVariants.{Done, Refused}
use Rattle.session_core.specs.declared.line.Line.{Line}
use Rattle.session_core.specs.declared.line.Refusal.TheVariants as refusals
use Rattle.session_core.specs.declared.line.Reply.{Reply}
use Rattle.session_core.specs.Answers.{memory, reply_to, rule_refusal}
use Rattle.session_core.specs.Steps.{reply_of}

-- the head of a line
abbrev pub head_of : Line → Head
head_of l = record { line = l.line; session = l.session; command = l.command }

-- the reply that was made, or that memory ran out
abbrev pub or_memory : Head → Result Reply Memory → Reply
or_memory head (Ok reply) = reply
or_memory head (Err want) = reply_of head.line head.session None memory

-- the reply to a line whose act was committed with this answer
abbrev pub commit_reply : Line → Result ℕ EditFault → Reply
commit_reply l (Ok n) = reply_to l (Some n) (Done l.command)
commit_reply l (Err (faults.HistoryFull n)) = reply_to l (Some n) (Refused refusals.HistoryFull)
commit_reply l (Err (faults.Broken breach n)) = reply_to l (Some n) (Refused (rule_refusal l.command breach))
commit_reply l (Err (faults.StoreFull n)) = reply_to l (Some n) (Refused refusals.StoreFull)
commit_reply l (Err faults.Disk) = reply_to l None (Refused refusals.Disk)
commit_reply l (Err faults.Memory) = reply_to l None memory
