use Rattle.std.proofs.Common.{codes, string_bytes}
use Rattle.reply_texts.specs.Inner.Pieces.{edits_piece, number_behind}
use Rattle.reply_texts.proofs.Pushed.{two}
use Rattle.reply_texts.proofs.replies.push_head.Goals as goal

pub returns : goal.returns
returns c =
    two (string_bytes c.args.out.now) (number_behind (codes "{\"line\":") c.args.line) (edits_piece c.args.n)
    c.in_ok-push_number.ensures c.in_ok-push_edits.ensures
