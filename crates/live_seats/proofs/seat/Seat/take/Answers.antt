use Rattle.std.proofs.Common.{List, ◌-◌, ◌∙◌, sym, subst, vec_capacity, vec_len}
use Rattle.live_laws.specs.Lanes.{Step}
use Rattle.live_seats.specs.Inner.Seats.{IsSeat, seat_of}
use Rattle.live_seats.proofs.Seating.{seat_goes_on}
use Rattle.live_seats.proofs.seat.Seat.take.Goals as goal

pub invariant_of-self : goal.invariant_of-self
invariant_of-self g c = (
  c.take_line-answered.ensures.gate ∙ c.self.invariant.0,
  subst (λ (steps : List Step). IsSeat g.K.Opening.opened (seat_of c.take_line-answered.new.pass.list c.take_line-answered.new.share c.take_line-answered.new.looks c.take_line-answered.new.kept.acts steps
      (vec_capacity c.push_reserved.new.self - vec_len c.push_reserved.new.self)))
      (sym c.push_reserved.ensures.items)
      (seat_goes_on g.K.Opening.opened
      (seat_of c.self.inside.pass.list c.self.inside.share c.self.inside.looks c.self.inside.kept.acts c.self.inside.steps.items (vec_capacity c.self.inside.steps - vec_len c.self.inside.steps))
      c.take_line-answered.new.pass.list c.take_line-answered.new.share c.take_line-answered.new.looks c.take_line-answered.new.kept.acts c.args.line.now c.take_line-answered.result
      (vec_capacity c.push_reserved.new.self - vec_len c.push_reserved.new.self) c.seen-seen.result c.self.invariant.1 c.take_line-answered.ensures.taken c.seen-seen.ensures),
)
