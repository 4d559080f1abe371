use Rattle.std.proofs.Common.{[], None, append-nil, ap, sym, ◌∙◌, subst}
use Rattle.query_workers.specs.session_core.declared.line.Reply.{Reply}
use Rattle.query_workers.specs.session_core.declared.head.Head.{Head}
use Rattle.query_workers.specs.session_core.Inner.Told.{or_memory}
use Rattle.live_seats.specs.Inner.Replies.{RepliesTo}
use Rattle.live_seats.proofs.Lines.{finish_replies, look_replies, query_replies}
use Rattle.live_seats.proofs.line.reply_to_line.Goals as goal

pub returns-in-Query-clause-replies : goal.returns-in-Query-clause-replies
returns-in-Query-clause-replies g c =
    subst (λ (r : Reply). RepliesTo g.K.Opening.opened c.args.pass.now.list c.answer_query-made.new.pass.list c.args.share.now c.args.share.now c.args.looks.now c.args.looks.now c.args.kept.now.acts c.args.kept.now.acts c.args.line.now r None)
    (sym (c.or_memory.ensures ∙ ap (λ (h : Head). or_memory h c.answer_query-made.result) c.head.ensures))
    (query_replies g.K.Opening.opened c.args.pass.now.list c.answer_query-made.new.pass.list c.args.share.now c.args.looks.now c.args.kept.now.acts c.args.line.now c.answer_query-made.ensures.learnt c.requires.asked.place
    c.in-Query.ask c.answer_query-made.result c.in-Query.is c.answer_query-made.ensures.answered)

pub returns-in-Look-clause-replies : goal.returns-in-Look-clause-replies
returns-in-Look-clause-replies g c =
    subst (λ (r : Reply). RepliesTo g.K.Opening.opened c.args.pass.now.list c.open_look-made.new.pass.list c.args.share.now c.args.share.now c.args.looks.now c.open_look-made.new.looks c.args.kept.now.acts c.args.kept.now.acts c.args.line.now r None)
    (sym (c.or_memory-in-Look.ensures ∙ ap (λ (h : Head). or_memory h c.open_look-made.result) c.head-in-Look.ensures))
    (look_replies g.K.Opening.opened c.args.pass.now.list c.open_look-made.new.pass.list c.args.share.now c.args.looks.now c.args.kept.now.acts c.args.line.now c.open_look-made.ensures.learnt c.requires.asked.place
    c.in-Look.ask c.open_look-made.new.looks c.open_look-made.result c.in-Look.is c.open_look-made.ensures.ok c.open_look-made.ensures.err)

pub returns-in-Finish-clause-replies : goal.returns-in-Finish-clause-replies
returns-in-Finish-clause-replies g c =
    subst (λ (r : Reply). RepliesTo g.K.Opening.opened c.args.pass.now.list c.args.pass.now.list c.args.share.now c.args.share.now c.args.looks.now c.close_look-made.new.looks c.args.kept.now.acts c.args.kept.now.acts c.args.line.now r None)
    (sym (c.or_memory-in-Finish.ensures ∙ ap (λ (h : Head). or_memory h c.close_look-made.result) c.head-in-Finish.ensures))
    (finish_replies g.K.Opening.opened c.args.pass.now.list c.args.pass.now.list c.args.share.now c.args.looks.now c.args.kept.now.acts c.args.line.now ([], append-nil c.args.pass.now.list) c.requires.asked.place
    c.close_look-made.new.looks c.close_look-made.result c.in-Finish.is c.close_look-made.ensures.ok c.close_look-made.ensures.err)

pub returns-in-After-clause-replies : goal.returns-in-After-clause-replies
returns-in-After-clause-replies g c = c.take_after-reply.ensures.replies c.args.share.now c.args.looks.now c.args.kept.now.acts
