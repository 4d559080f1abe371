use Rattle.std.proofs.Common.{ℕ, add-one, length, subst, sym, take}
use Rattle.query_workers.specs.session_core.Worlds.{Each}
use Rattle.live_laws.specs.Lanes.{Step}
use Rattle.live_seats.specs.Inner.Seats.{IsAsked}
use Rattle.live_seats.specs.Inner.Tables.{TellsStep}
use Rattle.query_workers.proofs.of_session_core.Turns.{each_map}
use Rattle.live_seats.proofs.Telling.{asked_steps, each_at, each_more, keeps_more, tells_still}
use Rattle.live_seats.proofs.table.Table.add_lane.Goals as goal

pub add_answered-requires : goal.add_answered-requires
add_answered-requires g c =
    subst (λ (n : ℕ). IsAsked n c.answered-item.result.turn.line) (sym c.loop-answered.invariant.keeps.places)
    (each_at (λ (st : Step). IsAsked (length c.args.self.now) st.turn.line) c.args.steps.now c.loop-answered.answered-index c.answered-item.result
    (asked_steps (length c.args.self.now) c.args.steps.now c.requires) c.loop-answered-test.true c.answered-item.is)

pub loop-answered-preserved : goal.loop-answered-preserved
loop-answered-preserved g c = record {
  told = subst (λ (n : ℕ). Each (TellsStep c.add_answered.new.self) (take n c.args.steps.now)) (sym (add-one c.loop-answered.answered-index))
      (each_more (TellsStep c.add_answered.new.self) c.args.steps.now c.loop-answered.answered-index c.answered-item.result
      (each_map (TellsStep c.loop-answered.self) (TellsStep c.add_answered.new.self) (tells_still c.loop-answered.self c.add_answered.new.self c.add_answered.ensures.keeps)
      (take c.loop-answered.answered-index c.args.steps.now) c.loop-answered.invariant.told)
      c.loop-answered-test.true c.answered-item.is c.add_answered.ensures.told);
  keeps = keeps_more c.args.self.now c.loop-answered.self c.add_answered.new.self c.loop-answered.invariant.keeps c.add_answered.ensures.keeps;
}
