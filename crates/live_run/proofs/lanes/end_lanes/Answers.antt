use Rattle.std.proofs.Common.{◌≡◌, ℕ, ◌+◌, [], vec_len, rules, arith, ap, ◌∙◌, sym, subst}
use Rattle.live_run.specs.Inner.Running.{IsThread, HasTaken}
use Rattle.live_seats.specs.session_core.Legal.{lines_in}
use Rattle.live_seats.specs.live_laws.Lanes.{lane_lines, turns_of}
use Rattle.live_seats.specs.Inner.Seats.{lane_of}
use Rattle.live_run.proofs.Joins.{thread_done, taken_more, parts_more, rest_lines, idle_lines, next_idle, have_lanes}
use Rattle.live_run.proofs.lanes.end_lanes.Goals as goal

pub loop-child-preserved : goal.loop-child-preserved
loop-child-preserved g c =
    let was = c.loop-child.invariant in
    let step = c.in-Some.ensures.steps in
    let at = vec_len c.loop-child.ended in
    let made = c.args.token.value.made in
    let thread : IsThread c.args.token.of c.args.seats c.args.lines.now at c.in-Some.child.promise =
    let h = was.threads 0 c.in-Some.child in grind rules in
    let same : c.join-seat.result.token.value.made ≡ made = ap (λ v. v.made) c.agrees.ensures in
    let done : HasTaken (lane_lines (lane_of c.args.seats made) at c.args.lines.now) c.join-seat.result.seat =
    thread_done c.args.token.of c.args.seats made at c.join-seat.result.token.value.made c.args.lines.now
    c.in-Some.child.promise c.join-seat.result.seat thread c.join-seat.ensures.1 same (omega arith) in
    let parts = parts_more c.loop-child.ended.items c.push_reserved.new.self.items c.join-seat.result.seat
    c.push_reserved.ensures.items in
    record {
      number = search rules;
      threads = (λ k d below. let h = was.threads (k + 1) d in grind rules);
      taken = taken_more c.args.seats made at c.args.lines.now c.loop-child.ended.items c.push_reserved.new.self.items
          c.join-seat.result.seat was.taken c.push_reserved.ensures.items c.loop-child.ended.ok.0 done.lines;
      parts = omega (arith, done.part);
      room = omega arith;
    }

pub loop-seat-init : goal.loop-seat-init
loop-seat-init g c =
    let was = c.loop-child.invariant in
    let made = c.args.token.value.made in
    let all : vec_len c.loop-child.ended ≡ made = search rules in
    let parts = parts_more c.loop-child.ended.items c.push_reserved-2.new.self.items c.args.last
    c.push_reserved-2.ensures.items in
    let mine = c.requires.last ∙ rest_lines c.args.seats (vec_len c.args.children) c.args.lines.now in
    let taken : lines_in (turns_of c.args.last.steps) ≡ lane_lines (lane_of c.args.seats made) made c.args.lines.now =
    subst (λ (n : ℕ). lines_in (turns_of c.args.last.steps) ≡ lane_lines (lane_of c.args.seats n) n c.args.lines.now)
    (sym c.requires.made.0) mine in
    record {
      number = search rules;
      past = omega arith;
      idle = search rules;
      taken = taken_more c.args.seats made made c.args.lines.now c.loop-child.ended.items c.push_reserved-2.new.self.items
          c.args.last was.taken c.push_reserved-2.ensures.items (sym all ∙ c.loop-child.ended.ok.0) taken;
      parts = omega arith;
      room = omega arith;
    }

pub loop-seat-preserved : goal.loop-seat-preserved
loop-seat-preserved g c =
    let was = c.loop-seat.invariant in
    let step = c.in-Some-seat.ensures.steps in
    let at = vec_len c.loop-seat.ended in
    let made = c.args.token.value.made in
    let pushed = c.push_reserved-in-loop-seat in
    let rest = next_idle c.in-Some-seat.seat step.0 was.idle in
    let idle : HasTaken [] c.in-Some-seat.seat = rest.0 (omega arith) in
    let taken : lines_in (turns_of c.in-Some-seat.seat.steps) ≡ lane_lines (lane_of c.args.seats made) at c.args.lines.now =
    idle.lines ∙ sym (idle_lines c.args.seats made at c.args.lines.now was.past) in
    let parts = parts_more c.loop-seat.ended.items pushed.new.self.items c.in-Some-seat.seat pushed.ensures.items in
    record {
      number = search rules;
      past = omega arith;
      idle = (λ k d below. rest.1 k d (omega arith));
      taken = taken_more c.args.seats made at c.args.lines.now c.loop-seat.ended.items pushed.new.self.items
          c.in-Some-seat.seat was.taken pushed.ensures.items c.loop-seat.ended.ok.0 taken;
      parts = omega (arith, idle.part);
      room = omega arith;
    }

pub returns-clause-run : goal.returns-clause-run
returns-clause-run g c =
    let was = c.loop-seat.invariant in
    let full : vec_len c.loop-seat.ended ≡ c.args.seats = search rules in
    have_lanes c.args.seats c.args.token.value.made c.args.lines.now c.loop-seat.ended.items (omega arith) was.taken
    (sym c.loop-seat.ended.ok.0 ∙ full)
