use Rattle.std.proofs.Common.{length, ap, sym, ◌∙◌}
use Rattle.lane_bits.proofs.Rows.{length-shown}
use Rattle.lane_bits.proofs.row.BitRow.len.Goals as goal

pub returns : goal.returns
returns c = sym (length-shown c.self.inside.len c.self.inside.words.items) ∙ ap length c.self.view_is
