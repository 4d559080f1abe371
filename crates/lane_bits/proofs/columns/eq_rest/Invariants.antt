use Rattle.std.proofs.Common.{◌≡◌, ◌+◌, ◌-◌, ◌*◌, ◌==◌, map, drop}
use Rattle.std.specs.Simd.Lanes.{mask_l}
use Rattle.lane_bits.proofs.columns.eq_rest.Given as goal

-- the numbers behind those that are still to be asked have been
abbrev pub invariant-loop-done : goal.invariant-loop-done
invariant-loop-done l =
    l.word ≡ mask_l (map (λ x. x == l.label) (drop (l.from + 8 * (l.eights - l.done)) l.column))
