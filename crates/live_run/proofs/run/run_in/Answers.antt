use Rattle.std.proofs.Common.{◌≡◌, map, vec_len, arith, sym, ◌∙◌}
use Rattle.std.proofs.lemmas.List.{length-map}
use Rattle.live_run.specs.Inner.Running.{AreFree}
use Rattle.live_run.proofs.Rooming.{free_from}
use Rattle.live_run.proofs.Settled.{settled_lanes}
use Rattle.live_run.proofs.run.run_in.Goals as goal

pub run_lanes-done-requires-clause-free : goal.run_lanes-done-requires-clause-free
run_lanes-done-requires-clause-free g c =
    let free : AreFree c.args.room.lists.seats c.args.orders.lines.now c.sit_all-free.result.items =
    free_from c.args.room.lists.seats c.args.orders.lines.now c.args.room.places.items c.sit_all-free.result.items
    c.requires.places c.sit_all-free.ensures.rooms c.sit_all-free.ensures.fresh in
    search (free)

pub gather-requires-clause-lanes : goal.gather-requires-clause-lanes
gather-requires-clause-lanes g c =
    let ran = c.run_lanes-done.result in
    let number : vec_len c.leave_all-rests.result.0 ≡ c.args.room.lists.seats =
    c.leave_all-rests.ensures.len ∙ ran.ok.0 ∙ sym (length-map ran.items (λ s. s.steps)) ∙ c.run_lanes-done.ensures.run.number in
    settled_lanes (vec_len c.leave_all-rests.result.0) c.args.room.lists.seats c.args.orders.lines.now
    (map (λ r. r.steps) c.leave_all-rests.result.0.items) (map (λ s. s.steps) ran.items) c.leave_all-rests.ensures.steps number
    c.run_lanes-done.ensures.run

pub gather-requires-clause-room : goal.gather-requires-clause-room
gather-requires-clause-room g c =
    let ran = c.run_lanes-done.result in
    let number : vec_len c.leave_all-rests.result.0 ≡ c.args.room.lists.seats =
    c.leave_all-rests.ensures.len ∙ ran.ok.0 ∙ sym (length-map ran.items (λ s. s.steps)) ∙ c.run_lanes-done.ensures.run.number in
    (c.requires.steps.0, omega (arith, number, c.requires.steps.1))

pub returns : goal.returns
returns g c = c.gather.ensures c.args.book c.requires.opening
