use Rattle.std.proofs.Common.{codes, string_bytes}
use Rattle.session_core.specs.segment_list.Inner.Texts.{rows_text}
use Rattle.reply_texts.proofs.Pushed.{two}
use Rattle.reply_texts.proofs.replies.push_segments.Goals as goal

pub returns : goal.returns
returns c =
    two (string_bytes c.args.out.now) (codes ",\"segments\":") (rows_text c.args.rows.now)
    c.in_ok-push_str.ensures.bytes c.in_ok-push_text.ensures
