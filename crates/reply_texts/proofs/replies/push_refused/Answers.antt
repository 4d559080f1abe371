use Rattle.std.proofs.Common.{◌++◌, ℕ, List, ap, ◌∙◌, codes, string_bytes}
use Rattle.serde_json.specs.Written.{compact_text}
use Rattle.reply_texts.specs.Texts.{refusal_data}
use Rattle.reply_texts.proofs.Printed.{refusal_text}
use Rattle.reply_texts.proofs.Pushed.{two}
use Rattle.reply_texts.proofs.replies.push_refused.Goals as goal

pub returns : goal.returns
returns c =
    two (string_bytes c.args.out.now) (codes ",\"refused\":") (compact_text (refusal_data c.args.refusal.now))
    c.in_ok-push_str.ensures.bytes
    (c.in_ok-push_str-2.ensures.bytes ∙ ap (λ (t : List ℕ). string_bytes c.push_str.new.self ++ t)
    (c.as_str.ensures.value ∙ refusal_text _ _ c.args.refusal.now c.in_ok-value.ensures c.in_ok-text.ensures.text))
