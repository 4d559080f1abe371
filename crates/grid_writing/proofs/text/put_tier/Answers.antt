use Rattle.std.proofs.Common.{length, refl}
use Rattle.std.specs.Prelude.{string_bytes}
use Rattle.grid_writing.proofs.Loops.{tier_put, on_ok}
use Rattle.grid_writing.proofs.text.put_tier.Goals as goal

pub returns : goal.returns
returns c =
    on_ok c.put_entries.result
    (tier_put (string_bytes c.args.made.now) (string_bytes c.put_count.new.made) (string_bytes c.put_line.new.made) (string_bytes c.put_text.new.made) (string_bytes c.put_time.new.made) (string_bytes c.put_time-2.new.made) (string_bytes c.put_count-2.new.made) (string_bytes c.put_entries.new.made)
    c.args.rate c.args.end c.args.number (length c.as_slice-entries.result.now) c.class_text.result.now c.as_str.result.now c.size_lead.result.now c.as_slice-entries.result.now c.args.level.now
    c.class_text.ensures c.as_str.ensures.value c.size_lead.ensures c.as_slice-entries.ensures refl
    c.in_ok-put_count.ensures c.in_ok-put_line.ensures c.in_ok-put_text.ensures c.in_ok-put_time.ensures c.in_ok-put_time-2.ensures c.in_ok-put_count-2.ensures)
    c.put_entries.ensures
