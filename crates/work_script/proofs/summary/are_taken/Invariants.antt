use Rattle.std.proofs.Common.{◌≡◌, drop}
use Rattle.std.specs.List.{list_all}
use Rattle.live_run.specs.session_core.declared.line.Reply.{Reply}
use Rattle.work_script.specs.Inner.Replies.{is_taken}
use Rattle.work_script.proofs.summary.are_taken.Given as goal

-- none was refused where none of the rest was
abbrev pub invariant-loop-reply : goal.invariant-loop-reply
invariant-loop-reply l =
    list_all (λ (r : Reply). is_taken r.answer) (drop l.reply-index l.replies) ≡ list_all (λ (r : Reply). is_taken r.answer) l.replies
