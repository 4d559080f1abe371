use Rattle.std.proofs.Common.{ap, ◌∙◌, ℕ, Result}
use Rattle.edit_undo.specs.edit_rules.declared.commit_fault.EditFault.{EditFault}
use Rattle.query_workers.specs.session_core.declared.head.Head.{Head}
use Rattle.query_workers.specs.session_core.Inner.Told.{commit_reply}
use Rattle.query_workers.specs.session_core.Inner.Kept.{head_line}
use Rattle.live_seats.proofs.line.reply_to_act.Goals as goal

pub returns-clause-told : goal.returns-clause-told
returns-clause-told c =
    c.commit_reply.ensures c.args.line.now.request
    ∙ ap (λ (h : Head). commit_reply (head_line h c.args.line.now.request) c.keep-number.result) c.head.ensures
    ∙ ap (λ (n : Result ℕ EditFault). commit_reply c.args.line.now n) c.keep-number.ensures.number
