use Rattle.std.proofs.Common.{◌-◌, vec_capacity, vec_len}
use Rattle.live_seats.proofs.Seating.{seat_begins}
use Rattle.live_seats.proofs.seat.Seat.new.Goals as goal

pub invariant_of-result : goal.invariant_of-result
invariant_of-result g c = (
  c.requires.gate,
  seat_begins g.K.Opening.opened c.args.pass.list c.args.share c.args.looks c.args.kept.acts c.args.steps.items (vec_capacity c.args.steps - vec_len c.args.steps)
      c.requires.seen.0 c.requires.seen.1 c.requires.seen.2 c.requires.share.0 c.requires.share.1 c.requires.share.2 c.requires.looks c.requires.kept c.requires.steps,
)
