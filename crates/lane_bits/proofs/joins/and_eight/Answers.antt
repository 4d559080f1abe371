use Rattle.std.specs.Int.Bits.{bit_and}
use Rattle.lane_bits.proofs.Joined.{eight_joined}
use Rattle.lane_bits.proofs.joins.and_eight.Goals as goal

pub returns : goal.returns
returns c = eight_joined bit_and c.args.into.now c.args.other.now c.args.at c.requires.room c.requires.same
