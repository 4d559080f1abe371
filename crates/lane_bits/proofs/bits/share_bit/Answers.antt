use Rattle.std.proofs.Common.{arith}
use Rattle.lane_bits.proofs.Next.{meet_there, meet_nowhere}
use Rattle.lane_bits.proofs.bits.share_bit.Goals as goal

pub returns : goal.returns
returns c = meet_nowhere c.args.words.now c.args.others.now c.requires (λ j within. c.loop-k.invariant j (omega arith))

pub returns-then-words-k-gt0 : goal.returns-then-words-k-gt0
returns-then-words-k-gt0 c =
    meet_there c.args.words.now c.args.others.now c.loop-k.k c.requires (omega arith) (c.type_inv.words c.loop-k.k).fits c.if-words-k-gt0.true
