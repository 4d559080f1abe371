use Rattle.std.proofs.Common.{ℕ, List, add-one, length, map, subst, sym, take}
use Rattle.query_workers.specs.session_core.Legal.{lines_in}
use Rattle.query_workers.specs.session_core.Worlds.{Each}
use Rattle.live_laws.specs.Lanes.{Step, turns_of}
use Rattle.live_seats.specs.Inner.Seats.{IsAsked}
use Rattle.live_seats.specs.Inner.Tables.{TellsStep}
use Rattle.live_seats.proofs.Telling.{asked_lanes, each_at, each_more, keeps_more, lanes_agree, lanes_still, mapped_at, mapped_below, mapped_past, take_whole}
use Rattle.live_seats.proofs.table.Table.add_lanes.Goals as goal

pub add_lane-requires : goal.add_lane-requires
add_lane-requires g c =
    let lanes : List (List Step) = map (λ v. v.items) c.args.lanes.now in
    subst (λ (steps : List Step). Each (IsAsked (length c.loop-steps.self)) (lines_in (turns_of steps))) (sym c.as_slice.ensures.value)
    (subst (λ (n : ℕ). Each (IsAsked n) (lines_in (turns_of c.steps-item.result.items))) (sym c.loop-steps.invariant.keeps.places)
    (each_at (λ (steps : List Step). Each (IsAsked (length c.args.self.now)) (lines_in (turns_of steps))) lanes c.loop-steps.steps-index c.steps-item.result.items
    (asked_lanes (length c.args.self.now) lanes c.requires)
    (mapped_below (λ v. v.items) c.args.lanes.now c.loop-steps.steps-index c.loop-steps-test.true)
    (mapped_at (λ v. v.items) c.args.lanes.now c.loop-steps.steps-index c.steps-item.result c.steps-item.is)))

pub loop-steps-preserved : goal.loop-steps-preserved
loop-steps-preserved g c =
    let lanes : List (List Step) = map (λ v. v.items) c.args.lanes.now in
    record {
      told = subst (λ (n : ℕ). Each (λ (steps : List Step). Each (TellsStep c.add_lane.new.self) steps) (take n lanes)) (sym (add-one c.loop-steps.steps-index))
          (each_more (λ (steps : List Step). Each (TellsStep c.add_lane.new.self) steps) lanes c.loop-steps.steps-index c.steps-item.result.items
          (lanes_still c.loop-steps.self c.add_lane.new.self c.add_lane.ensures.keeps (take c.loop-steps.steps-index lanes) c.loop-steps.invariant.told)
          (mapped_below (λ v. v.items) c.args.lanes.now c.loop-steps.steps-index c.loop-steps-test.true)
          (mapped_at (λ v. v.items) c.args.lanes.now c.loop-steps.steps-index c.steps-item.result c.steps-item.is)
          (subst (λ (steps : List Step). Each (TellsStep c.add_lane.new.self) steps) c.as_slice.ensures.value c.add_lane.ensures.told));
      keeps = keeps_more c.args.self.now c.loop-steps.self c.add_lane.new.self c.loop-steps.invariant.keeps c.add_lane.ensures.keeps;
    }

pub returns : goal.returns
returns g c =
    let lanes : List (List Step) = map (λ v. v.items) c.args.lanes.now in
    lanes_agree c.loop-steps.self lanes
    (take_whole (λ (steps : List Step). Each (TellsStep c.loop-steps.self) steps) lanes c.loop-steps.steps-index
    (mapped_past (λ v. v.items) c.args.lanes.now c.loop-steps.steps-index c.loop-steps-test.false) c.loop-steps.invariant.told)
