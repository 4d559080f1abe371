use Rattle.std.proofs.Common.{eqb, take, drop, arith}
use Rattle.std.proofs.lemmas.Simd.{bitmask_splat, length-chunk}
use mir.Syntax.{w32}
use Rattle.lane_bits.proofs.lanes.eq_eight.Goals as goal

pub returns : goal.returns
returns c =
    bitmask_splat w32 eqb (take 8 (drop c.args.at c.args.column.now)) 8 c.args.label
    (length-chunk c.args.at 8 c.args.column.now c.requires) (omega arith)
