use Rattle.std.proofs.Common.{ℕ, ap, sym, ◌∙◌, subst}
use Rattle.std.specs.Option.{option_map}
use Rattle.live_laws.specs.Lanes.{Step}
use Rattle.live_seats.specs.Inner.Notes.{noted_of}
use Rattle.live_seats.specs.Inner.Seats.{TakesLine, answered_step}
use Rattle.live_seats.proofs.Lines.{takes_line}
use Rattle.live_seats.proofs.line.take_line.Goals as goal

pub returns-clause-taken : goal.returns-clause-taken
returns-clause-taken g c =
    subst (λ (st : Step). TakesLine g.K.Opening.opened c.args.pass.now.list c.reply_to_line-reply.new.pass.list c.args.share.now c.reply_to_line-reply.new.share c.args.looks.now c.reply_to_line-reply.new.looks
    c.args.kept.now.acts c.reply_to_line-reply.new.kept.acts c.args.line.now st)
    (sym (c.new.ensures ∙ ap (λ (n : ℕ). answered_step c.args.line.now c.reply_to_line-reply.result.0 n (option_map noted_of c.reply_to_line-reply.result.1)) (ap noted_of c.tell-told.ensures)))
    (takes_line g.K.Opening.opened c.args.pass.now.list c.reply_to_line-reply.new.pass.list c.args.share.now c.reply_to_line-reply.new.share c.args.looks.now c.reply_to_line-reply.new.looks
    c.args.kept.now.acts c.reply_to_line-reply.new.kept.acts c.args.line.now
    c.reply_to_line-reply.result.0 (option_map noted_of c.reply_to_line-reply.result.1) c.seen.result c.seen.ensures c.reply_to_line-reply.ensures.replies)
