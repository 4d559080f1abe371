use Rattle.plain_core.proofs.Turning.{places_rest, made_next, stops_next, stops_now, on_err}
use Rattle.plain_core.proofs.machine.Core.run.Goals as goal

pub loop-event-preserved : goal.loop-event-preserved
loop-event-preserved c = record {
  places = places_rest c.in-Some.event c.pop_front.new.self.items c.loop-event.events.items c.in-Some.ensures.items c.loop-event.invariant.places;
  made = made_next c.loop-event.replies c.turn.new.replies c.loop-event.self c.turn.new.self c.in-Some.event c.pop_front.new.self.items c.loop-event.events.items _ c.in-Some.ensures.items c.loop-event.invariant.made c.in_ok-turn.ensures.state c.in_ok-turn.ensures.replies;
  stops = λ new s. c.loop-event.invariant.stops new (stops_next c.loop-event.self c.turn.new.self new c.in-Some.event c.pop_front.new.self.items c.loop-event.events.items c.in-Some.ensures.items c.in_ok-turn.ensures.state s);
}

pub returns-in_err-turn-clause-err : goal.returns-in_err-turn-clause-err
returns-in_err-turn-clause-err c =
    on_err c.from_residual.result _
    (c.loop-event.invariant.stops c.turn.new.self
    (stops_now c.loop-event.self c.turn.new.self c.in-Some.event c.pop_front.new.self.items c.loop-event.events.items c.in-Some.ensures.items c.in_err-turn.ensures.err))
