use Rattle.std.proofs.Common.{◌≡◌, ◌++◌, List, ◌∙◌, ap, arith, length-append, subst, sym}
use Rattle.std.specs.Vec.Iter.{into_iter_items}
use Rattle.live_seats.specs.session_core.declared.line.Reply.{Reply}
use Rattle.live_run.specs.Inner.Grouping.{QueueParts}
use Rattle.live_run.proofs.Queues.{left_long, left_more, left_none, queue_of}
use Rattle.live_run.proofs.grouping.Queue.append.Goals as goal

pub loop-reply-init : goal.loop-reply-init
loop-reply-init c = record {
  whole =
      ap (λ (l : List Reply). l ++ into_iter_items c.into_iter-reply-iterator.result) (ap (λ (q : QueueParts). q.replies) c.self.view_is)
      ∙ ap (λ (l : List Reply). c.args.self.now.replies ++ l) (c.into_iter-reply-iterator.ensures.into_iter_gives.0 ∙ ap (λ (q : QueueParts). q.replies) c.other.view_is);
  room = ap (λ (q : QueueParts). q.capacity) c.self.view_is;
}

pub push_reserved-requires : goal.push_reserved-requires
push_reserved-requires c =
    let all = c.args.self.now.replies ++ c.args.other.replies in
    omega (
      arith,
      c.loop-reply.self-inside.list.ok.0,
      c.loop-reply.invariant.room,
      c.requires,
      length-append c.args.self.now.replies c.args.other.replies,
      left_long c.loop-reply.self-inside.list.items (into_iter_items c.loop-reply.reply-iterator) (into_iter_items c.next.new.self) all c.in-Some.reply c.loop-reply.invariant.whole c.in-Some.ensures.steps.0,
    )

pub loop-reply-preserved : goal.loop-reply-preserved
loop-reply-preserved c =
    let all = c.args.self.now.replies ++ c.args.other.replies in
    record {
      whole = subst (λ (l : List Reply). l ++ into_iter_items c.next.new.self ≡ all) (sym c.push_reserved.ensures.items)
          (left_more c.loop-reply.self-inside.list.items (into_iter_items c.loop-reply.reply-iterator) (into_iter_items c.next.new.self) all c.in-Some.reply c.loop-reply.invariant.whole c.in-Some.ensures.steps.0);
      room = c.push_reserved.ensures.capacity ∙ c.loop-reply.invariant.room;
    }

pub returns : goal.returns
returns c =
    let all = c.args.self.now.replies ++ c.args.other.replies in
    queue_of c.loop-reply.self-inside.list.items all _ c.args.self.now.capacity
    (left_none c.loop-reply.self-inside.list.items (into_iter_items c.loop-reply.reply-iterator) all c.loop-reply.invariant.whole
    (omega (arith, c.in-None.ensures.steps.0, c.loop-reply.reply-iterator.rest.ok.0)))
    c.loop-reply.invariant.room
