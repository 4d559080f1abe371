use Rattle.std.proofs.Common.{◌++◌, ap, ◌∙◌, ℕ, List, string_bytes}
use Rattle.segment_list.specs.Inner.Pieces.{level_text, samples_text, session_text, start_text}
use Rattle.segment_list.proofs.Pushed.{four}
use Rattle.segment_list.proofs.print.push_back.Goals as goal

pub returns : goal.returns
returns c =
    let n = c.args.pieces.now in
    let m = c.args.row.now in
    four (string_bytes c.args.out.now) (level_text n) (samples_text m) (session_text n) (start_text m)
    (c.in_ok-push_str.ensures.bytes ∙ ap (λ (t : List ℕ). string_bytes c.args.out.now ++ t) c.before_end.ensures)
    (c.in_ok-push_str-2.ensures.bytes ∙ ap (λ (t : List ℕ). string_bytes c.push_str.new.self ++ t)
    (c.as_str.ensures ∙ c.sample_numbers.ensures))
    (c.in_ok-push_str-3.ensures.bytes ∙ ap (λ (t : List ℕ). string_bytes c.push_str-2.new.self ++ t)
    c.before_start.ensures)
    (c.in_ok-push_str-4.ensures.bytes ∙ ap (λ (t : List ℕ). string_bytes c.push_str-3.new.self ++ t)
    (c.as_str-2.ensures ∙ c.start_numbers.ensures))
