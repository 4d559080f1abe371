use Rattle.std.proofs.Common.{refl, ◌∙◌, ap, arith, slice_set}
use Rattle.std.proofs.lemmas.Option.{slice_get_read}
use Rattle.live_run.specs.Inner.Grouping.{QueueParts}
use Rattle.live_run.proofs.Queues.{put_is, put_room}
use Rattle.live_run.proofs.grouping.put.Goals as goal

-- src/grouping.rt:103:5
pub push-requires : goal.push-requires
push-requires c =
    put_room 0 c.args.reply.session.0 c.args.reply c.args.queues.now.items c.index_mut.result.now (omega arith)
    (slice_get_read c.args.queues.now.items _ c.args.reply.session.0 c.index_mut.result.now refl c.requires.place c.index_mut.ensures.value) c.requires.room

-- src/grouping.rt:97:1
pub returns : goal.returns
returns c =
    ap (λ (q : QueueParts). slice_set c.args.queues.now.items c.args.reply.session.0 q) c.push.ensures
    ∙ put_is 0 c.args.reply.session.0 c.args.reply c.args.queues.now.items c.index_mut.result.now (omega arith)
    (slice_get_read c.args.queues.now.items _ c.args.reply.session.0 c.index_mut.result.now refl c.requires.place c.index_mut.ensures.value)
