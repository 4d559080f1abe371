use Rattle.std.proofs.Common.{List, None, subst}
use Rattle.query_workers.specs.session_core.declared.kept_acts.KeptAct.{KeptAct}
use Rattle.live_seats.specs.Inner.Replies.{RepliesTo}
use Rattle.live_seats.proofs.Lines.{memory_told}
use Rattle.live_seats.proofs.line.take_undo.Goals as goal

pub returns-in-Ok-clause-replies : goal.returns-in-Ok-clause-replies
returns-in-Ok-clause-replies g c looks =
    subst (λ (ks : List KeptAct). RepliesTo g.K.Opening.opened c.args.pass.now.list c.answer_undo.new.pass.list c.args.share.now c.answer_undo.new.share
    looks looks ks c.answer_undo.new.kept.acts c.args.line.now c.answer_undo.result None)
    c.make_room.ensures.acts (c.answer_undo.ensures.replies looks)

pub returns-in-Err-clause-replies : goal.returns-in-Err-clause-replies
returns-in-Err-clause-replies g c looks =
    memory_told g.K.Opening.opened c.args.pass.now.list c.args.share.now looks c.args.kept.now.acts c.make_room.new.self.acts c.args.line.now
    c.requires.place c.make_room.ensures.acts c.memory_reply.result c.memory_reply.ensures
