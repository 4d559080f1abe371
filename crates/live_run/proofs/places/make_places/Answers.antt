use Rattle.std.proofs.Common.{◌≡◌, vec_capacity, arith, ◌∙◌, sym}
use Rattle.live_run.proofs.Rooming.{room_more}
use Rattle.live_run.proofs.places.make_places.Goals as goal

pub loop-at-preserved : goal.loop-at-preserved
loop-at-preserved g c =
    let was = c.loop-at.invariant in
    let pushed : vec_capacity c.push_reserved.new.self ≡ vec_capacity c.loop-at.places = c.push_reserved.ensures.capacity in
    record {
      same = c.make_place.ensures.same ∙ was.same;
      gates = c.take_pass-pass.ensures.gates;
      left = omega arith;
      len = omega arith;
      below = omega arith;
      capacity = omega arith;
      room = room_more c.args.seats c.loop-at.at c.args.lines.now c.loop-at.places.items c.push_reserved.new.self.items
          c.in_ok-place.place was.room c.push_reserved.ensures.items (omega (arith, c.loop-at.places.ok.0))
          (sym (c.in_ok-place.ensures.room ∙ c.count-count.ensures));
    }
