use Rattle.hier_closure.proofs.Bits.{bits_dominance}
use Rattle.hier_closure.proofs.laws.bits_are_dominance.Goals as goal

pub returns : goal.returns
returns c = bits_dominance
