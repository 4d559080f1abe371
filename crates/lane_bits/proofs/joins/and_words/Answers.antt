use Rattle.std.proofs.Common.{◌≡◌, ◌*◌, ◌/◌, ℕ, length, subst, arith}
use Rattle.std.specs.Int.Bits.{bit_and}
use Rattle.lane_bits.specs.Inner.Words.{JoinedIn}
use Rattle.lane_bits.proofs.Joined.{all_joined}
use Rattle.lane_bits.proofs.joins.and_words.Goals as goal

pub returns : goal.returns
returns c =
    let old = c.args.into.now in
    let count : c.loop-block.block ≡ length old / 8 = omega arith in
    let at : ℕ → Type 0 = λ b. JoinedIn bit_and old c.args.other.now c.loop-block.into 0 (8 * b) in
    all_joined bit_and old c.args.other.now c.loop-block.into c.and_rest.new.into (8 * (length old / 8)) c.requires c.loop-block.auto.into c.and_rest.auto.into
    (subst at count c.loop-block.invariant) c.and_rest.ensures
