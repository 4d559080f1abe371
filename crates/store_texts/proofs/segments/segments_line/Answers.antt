use Rattle.std.proofs.Common.{◌∙◌, string_bytes}
use Rattle.emu_names.proofs.Made.{made_same}
use Rattle.store_texts.proofs.Pieces.{written}
use Rattle.store_texts.proofs.segments.segments_line.Goals as goal

pub returns : goal.returns
returns c =
    made_same c.from_string.result (string_bytes c.push_str-2.new.self) _ c.from_string.ensures
    (written c.args.n c.args.rows.now (string_bytes c.new-out.result) (string_bytes
    c.push_head.new.out)
    (string_bytes c.push_str.new.self) (string_bytes c.push_str-2.new.self) c.as_str.result.now
    c.new-out.ensures.bytes
    c.in_ok-push_head.ensures c.in_ok-push_str.ensures.bytes c.in_ok-push_str-2.ensures.bytes (c.as_str.ensures ∙
    c.in_ok-rows.ensures))
