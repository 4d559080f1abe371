use Rattle.std.proofs.Common.{◌≡◌, ◌+◌, ◌-◌, ◌*◌, map, take, drop}
use Rattle.std.specs.Simd.Lanes.{mask_l}
use Rattle.lane_bits.specs.Inner.Row.{is_between}
use Rattle.lane_bits.proofs.lanes.range_word.Given as goal

-- the numbers behind those that are still to be asked have been
abbrev pub invariant-loop-done : goal.invariant-loop-done
invariant-loop-done l =
    l.word ≡ mask_l (map (is_between l.low l.high) (take (8 * l.done) (drop (l.at + (64 - 8 * l.done)) l.column)))
