use Rattle.std.proofs.Common.{◌-◌, ◌≡◌, ℕ, suc, drop, ap, ◌∙◌, arith}
use Rattle.lane_bits.proofs.Counted.{ones, ones_before, ones_few}
use Rattle.lane_bits.proofs.bits.count_rest.Goals as goal

pub loop-at-preserved : goal.loop-at-preserved
loop-at-preserved c =
    let at : ℕ = c.loop-at.at - 1 in
    let words = c.args.words.now in
    let next : c.loop-at.at ≡ suc at = omega arith in
    let behind : c.loop-at.count ≡ ones (drop (suc at) words) = c.loop-at.invariant.same ∙ ap (λ n. ones (drop n words)) next in
    let few = ones_few words at c.type_inv.words in
    record {
      low = omega arith;
      high = omega arith;
      same = ones_before words at c.loop-at.count c.from-count.result (omega arith) c.from-count.ensures behind;
      few = omega arith;
    }
