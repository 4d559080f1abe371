use Rattle.textgrid.proofs.Sizes.{four_bytes, three_bytes}
use Rattle.std.proofs.Common.{arith}
use Rattle.textgrid.proofs.encoding.utf16_char.Goals as goal

pub returns-in-Some-clause-size : goal.returns-in-Some-clause-size
returns-in-Some-clause-size c = four_bytes c.in-Some.whole

pub returns-clause-size : goal.returns-clause-size
returns-clause-size c = three_bytes c.in_ok-alone.alone (omega (arith, c.in_ok-alone.ensures.value.1, c.unit-first.ensures.below))
