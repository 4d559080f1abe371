use Rattle.std.proofs.Common.{◌++◌, ℕ, List, ap, ◌∙◌, codes, string_bytes}
use Rattle.reply_texts.specs.Texts.{command_word}
use Rattle.reply_texts.proofs.Pushed.{three}
use Rattle.reply_texts.proofs.replies.push_done.Goals as goal

pub returns : goal.returns
returns c =
    three (string_bytes c.args.out.now) (codes ",\"ok\":\"") (command_word c.args.command) (codes "\"")
    c.in_ok-push_str.ensures.bytes
    (c.in_ok-push_str-2.ensures.bytes ∙ ap (λ (t : List ℕ). string_bytes c.push_str.new.self
    ++ t) c.word_of_command.ensures)
    c.in_ok-push_str-3.ensures.bytes
