use Rattle.std.proofs.Common.{string_bytes}
use Rattle.reply_texts.proofs.Pieced.{before_rows, made_before}
use Rattle.reply_texts.proofs.print.print_before_rows.Goals as goal

pub returns : goal.returns
returns c =
    made_before c.from_string.result (string_bytes c.push_str.new.self) c.args.reply.now c.from_string.ensures
    (before_rows c.args.reply.now (string_bytes c.new-out.result) c.new-out.ensures.bytes c.in_ok-push_head.ensures
    c.in_ok-push_str.ensures.bytes)
