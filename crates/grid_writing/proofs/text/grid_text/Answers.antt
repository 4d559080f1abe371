use Rattle.std.specs.Prelude.{string_bytes}
use Rattle.grid_writing.proofs.Loops.{grid_put}
use Rattle.grid_writing.proofs.text.grid_text.Goals as goal

pub returns : goal.returns
returns c =
    grid_put (string_bytes c.new-made.result) (string_bytes c.put_time.new.made) (string_bytes c.put_time-2.new.made) (string_bytes c.put_count.new.made) (string_bytes c.put_tiers.new.made)
    c.args.rate c.args.end c.args.levels.now c.new-made.ensures.bytes
    c.in_ok-put_time.ensures c.in_ok-put_time-2.ensures c.in_ok-put_count.ensures c.in_ok-put_tiers.ensures
