use Rattle.std.proofs.Common.{◌≡◌, inr, None, Some, Ok, Err, ap, ◌∙◌, refl, rules}
use Rattle.query_workers.specs.session_core.declared.line.Answer.TheVariants.{Refused}
use Rattle.query_workers.specs.session_core.declared.line.Refusal.{Refusal}
use Rattle.query_workers.specs.session_core.declared.line.Refusal.TheVariants as refusals
use Rattle.query_workers.specs.session_core.declared.head.Head.{Head}
use Rattle.query_workers.specs.session_core.Answers.{reply_to}
use Rattle.query_workers.specs.session_core.Inner.Kept.{head_reply}
use Rattle.query_workers.specs.session_core.Undos.{latest_of, undo_refusal}
use Rattle.live_seats.specs.Inner.Replies.{AsksBack}
use Rattle.live_seats.proofs.Edits.{act_told}
use Rattle.live_seats.proofs.Lines.{no_undo_told, not_accepted_told}
use Rattle.live_seats.proofs.line.answer_undo.Goals as goal

pub returns-in-None-clause-replies : goal.returns-in-None-clause-replies
returns-in-None-clause-replies g c looks =
    let back : latest_of c.args.line.now.session.0 c.args.earlier c.args.kept.now.acts ≡ None = search rules in
    not_accepted_told g.K.Opening.opened c.args.pass.now.list c.args.share.now looks c.args.kept.now.acts c.args.kept.now.acts c.args.line.now c.requires.place refl
    c.reply.result c.args.earlier c.requires.asks back
    (c.reply.ensures ∙ ap (λ (h : Head). head_reply h None (Refused refusals.NotAccepted)) c.head.ensures)

pub returns-in-Some-Err-clause-replies : goal.returns-in-Some-Err-clause-replies
returns-in-Some-Err-clause-replies g c looks =
    let back : latest_of c.args.line.now.session.0 c.args.earlier c.args.kept.now.acts ≡ Some (Err c.in-Some-Err.reason) = search rules in
    no_undo_told g.K.Opening.opened c.args.pass.now.list c.args.share.now looks c.args.kept.now.acts c.args.kept.now.acts c.args.line.now c.requires.place refl
    c.reply-in-Some-Err.result c.args.earlier c.in-Some-Err.reason c.requires.asks back
    (c.reply-in-Some-Err.ensures ∙ ap (λ (h : Head). head_reply h None (Refused c.refuse_undo.result)) c.head-in-Some-Err.ensures
    ∙ ap (λ (r : Refusal). reply_to c.args.line.now None (Refused r)) c.refuse_undo.ensures)

pub returns-in-Some-Ok-clause-replies : goal.returns-in-Some-Ok-clause-replies
returns-in-Some-Ok-clause-replies g c looks =
    let back : latest_of c.args.line.now.session.0 c.args.earlier c.args.kept.now.acts ≡ Some (Ok c.in-Some-Ok.act) = search rules in
    let asks : AsksBack c.args.kept.now.acts c.args.line.now c.in-Some-Ok.act = record { earlier = c.args.earlier; asks = c.requires.asks; back = back } in
    act_told g.K.Opening.opened c.args.pass.now.list c.try_act-made.new.pass.list c.args.share.now c.try_act-made.new.share looks
    c.args.kept.now.acts c.args.kept.now.acts c.reply_to_act.new.kept.acts c.args.line.now c.in-Some-Ok.act c.try_act-made.result c.reply_to_act.result
    c.requires.place (inr asks) refl c.try_act-made.ensures.tried c.reply_to_act.ensures.kept c.reply_to_act.ensures.told
