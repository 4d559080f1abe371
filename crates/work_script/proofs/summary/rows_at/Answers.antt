use Rattle.work_script.proofs.Lists.{has_get}
use Rattle.work_script.proofs.summary.rows_at.Goals as goal

pub returns-in-Some : goal.returns-in-Some
returns-in-Some c = record {
  reply = c.reply-item.result;
  there = has_get c.args.replies.now c.loop-reply.reply-index c.reply-item.result c.reply-item.result c.loop-reply-test.true c.reply-item.is;
  gives = c.in-Some.ensures;
}
