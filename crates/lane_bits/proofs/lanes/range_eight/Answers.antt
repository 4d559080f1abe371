use Rattle.std.proofs.Common.{take, drop}
use Rattle.std.proofs.lemmas.Simd.{length-chunk, chunk-fits}
use mir.Syntax.{w64}
use Rattle.lane_bits.proofs.Between.{between_by_one}
use Rattle.lane_bits.proofs.lanes.range_eight.Goals as goal

pub returns : goal.returns
returns c =
    between_by_one (take 8 (drop c.args.at c.args.column.now)) c.args.low c.args.high
    (length-chunk c.args.at 8 c.args.column.now c.requires.room) c.requires.order c.ranges.high.fits
    (chunk-fits w64 c.args.at 8 c.args.column.now c.type_inv.column)
