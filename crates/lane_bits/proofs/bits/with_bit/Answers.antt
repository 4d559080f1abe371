use Rattle.std.proofs.Common.{if◌then◌else◌, ap, sym, ◌∙◌}
use Rattle.std.proofs.lemmas.Nat.Bits.{bit_at_set_same, bit_at_set_other, bit_at_clear_same, bit_at_clear_other}
use mir.Syntax.{w64}
use Rattle.lane_bits.proofs.bits.with_bit.Goals as goal

pub returns-then-bit : goal.returns-then-bit
returns-then-bit c = record {
  here = bit_at_set_same w64 c.args.word c.args.place c.requires ∙ ap (λ b. if b then 1 else 0) (sym c.if-bit.true);
  others = λ i near other. bit_at_set_other w64 c.args.word c.args.place c.requires i other;
}

pub returns-else-bit : goal.returns-else-bit
returns-else-bit c = record {
  here = bit_at_clear_same w64 c.args.word c.args.place c.requires ∙ ap (λ b. if b then 1 else 0) (sym c.if-bit.false);
  others = λ i near other. bit_at_clear_other w64 c.args.word c.args.place c.requires i near other;
}
