use Rattle.std.proofs.Common.{string_bytes}
use Rattle.emu_names.proofs.Made.{made_same}
use Rattle.reply_texts.proofs.Pieced.{written}
use Rattle.reply_texts.proofs.print.print_reply.Goals as goal

pub returns : goal.returns
returns c =
    made_same c.from_string.result (string_bytes c.push_str.new.self) _ c.from_string.ensures
    (written c.args.reply.now (string_bytes c.new-out.result) c.new-out.ensures.bytes c.in_ok-push_head.ensures
    c.in_ok-push_answer.ensures c.in_ok-push_str.ensures.bytes)
