use Rattle.std.proofs.Common.{rules, ◌-◌, ◌≡◌, length}
use Rattle.std.proofs.KnownBytes.{Consumes-trans}
use Rattle.emu_io.proofs.FrontLemmas.{front_of_taken, taken_past, kept_past, on_any}
use Rattle.emu_io.proofs.whole.read_front.Goals as goal

pub returns-in_err-extend_from_slice-clause-lost :
    goal.returns-in_err-extend_from_slice-clause-lost
returns-in_err-extend_from_slice-clause-lost g c =
    on_any c.from_residual-in_err-extend_from_slice.result (_, Consumes-trans _ _ _ _ _ c.turns.invariant.taken c.in_ok-count.ensures.bytes.0)

pub returns-then-count-room-clause-taken : goal.returns-then-count-room-clause-taken
returns-then-count-room-clause-taken g c =
    taken_past _ _ _ c.turns.bytes.items _ c.read.new.buf _ _ c.turns.invariant.taken c.in_ok-count.ensures.bytes.0
    c.in_ok-extend_from_slice.ensures.items c.if-count-room.true c.in_ok-count.ensures.bound.0

pub returns-then-count-room-clause-front : goal.returns-then-count-room-clause-front
returns-then-count-room-clause-front g c =
    let fits = c.turns.invariant.fits in
    let is : c.args.most - c.len.result ≡ c.args.most - length c.turns.bytes.items = search rules in
    let kept = kept_past c.turns.bytes.items _ c.read.new.buf c.args.most _ _ c.in_ok-extend_from_slice.ensures.items fits
    is c.if-count-room.true c.in_ok-count.ensures.bound.0 in
    front_of_taken _ _ c.args.most _ _ (returns-then-count-room-clause-taken g c) (search rules) (λ _. kept)

pub returns-in_err-extend_from_slice-2-clause-lost :
    goal.returns-in_err-extend_from_slice-2-clause-lost
returns-in_err-extend_from_slice-2-clause-lost g c =
    on_any c.from_residual-in_err-extend_from_slice-2.result (_, Consumes-trans _ _ _ _ _ c.turns.invariant.taken c.in_ok-count.ensures.bytes.0)
