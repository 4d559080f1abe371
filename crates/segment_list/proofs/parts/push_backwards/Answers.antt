use Rattle.std.proofs.Common.{ℕ, ◌++◌, ◌-◌, reverse, ap}
use Rattle.segment_list.proofs.Backwards.{row_out}
use Rattle.segment_list.proofs.parts.push_backwards.Goals as goal

pub loop-rows-preserved : goal.loop-rows-preserved
loop-rows-preserved c =
    row_out c.loop-rows.out.items c.push.new.self.items (c.args.out.now.items
    ++ reverse c.args.rows) c.loop-rows.rows c.remove-row.new.self
    (c.len.result - 1) c.remove-row.result (ap (λ (n : ℕ). n - 1) c.len.ensures) c.remove-row.ensures.item
    c.remove-row.ensures.left
    c.in_ok-push.ensures.items c.loop-rows.invariant
