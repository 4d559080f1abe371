-- Segments that touch.
use Rattle.std.proofs.Common.{◌≡◌, ◌+◌, ◌-◌, ◌*◌, false, ◌==◌, refl, arith}
use Rattle.std.proofs.lemmas.Bool.Decides.{nat_tests}
use Rattle.eql_rows.specs.Laws.{TouchingSegmentsMeet}

pub segments_meet : TouchingSegmentsMeet
segments_meet rate last =
    let behind : ((last + 1) == 0) ≡ false = grind (arith, nat_tests) in
    let border : 2 * (last + 1) - 1 ≡ 2 * last + 1 = omega arith in
    rw (behind, border) refl
