use Rattle.std.proofs.Common.{◌+◌, ℕ, ap, ◌∙◌}
use Rattle.std.specs.Prelude.{string_bytes}
use Rattle.level_items.specs.Times.{first_sample, last_sample}
use Rattle.grid_writing.proofs.Loops.{interval_put, on_ok}
use Rattle.grid_writing.proofs.text.put_interval.Goals as goal

pub returns : goal.returns
returns c =
    let first = c.first_sample-first.ensures ∙ ap first_sample c.time-time.ensures in
    let end = ap (λ (n : ℕ). n + 1) (c.last_sample-end.ensures ∙ ap last_sample c.time-time.ensures) in
    on_ok c.put_text.result
    (interval_put (string_bytes c.args.made.now) (string_bytes c.put_count.new.made) (string_bytes c.put_time.new.made) (string_bytes c.put_time-2.new.made) (string_bytes c.put_text.new.made)
    c.args.rate c.args.number c.first_sample-first.result (c.last_sample-end.result + 1) c.label.result.now c.args.entry.now first end c.label.ensures
    c.in_ok-put_count.ensures c.in_ok-put_time.ensures c.in_ok-put_time-2.ensures)
    c.put_text.ensures
