use Rattle.std.proofs.Common.{inl}
use Rattle.live_seats.proofs.Edits.{act_told}
use Rattle.live_seats.proofs.Lines.{memory_told}
use Rattle.live_seats.proofs.line.take_act.Goals as goal

pub returns-in-Ok-clause-replies : goal.returns-in-Ok-clause-replies
returns-in-Ok-clause-replies g c looks =
    act_told g.K.Opening.opened c.args.pass.now.list c.try_act-made.new.pass.list c.args.share.now c.try_act-made.new.share looks
    c.args.kept.now.acts c.make_room.new.self.acts c.reply_to_act.new.kept.acts c.args.line.now c.args.act.now c.try_act-made.result c.reply_to_act.result
    c.requires.place (inl c.requires.asks) c.make_room.ensures.acts c.try_act-made.ensures.tried c.reply_to_act.ensures.kept c.reply_to_act.ensures.told

pub returns-in-Err-clause-replies : goal.returns-in-Err-clause-replies
returns-in-Err-clause-replies g c looks =
    memory_told g.K.Opening.opened c.args.pass.now.list c.args.share.now looks c.args.kept.now.acts c.make_room.new.self.acts c.args.line.now
    c.requires.place c.make_room.ensures.acts c.memory_reply.result c.memory_reply.ensures
