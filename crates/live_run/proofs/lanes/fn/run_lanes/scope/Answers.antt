use Rattle.std.proofs.Common.{◌≡◌, ◌+◌, [], length, vec_len, vec_capacity, rules, arith, ap, ◌∙◌, sym, refl, subst}
use Rattle.live_seats.specs.declared.lane.Lane.TheVariants as lane_kinds
use Rattle.live_run.specs.declared.lanes.LaneOf.{LaneOf}
use Rattle.live_run.specs.Inner.Running.{AreFree, AreIdle, HasTaken, IsFree, IsThread, thread_lines}
use Rattle.live_seats.specs.Inner.Seats.{IsAsked}
use Rattle.live_seats.specs.session_core.Worlds.{Each}
use denote.Param.{param}
use denote.Exit.{no}
use denote.Param.Send.{IsSend, IsSync, arg_send, param_send, param_sync, shr_send}
use denote.Ref.{NamedLft}
use mir.Syntax.{named}
use Rattle.live_run.specs.contracts.lanes.Job as job
use Rattle.live_seats.specs.contracts.around.Around as around_contract
use Rattle.live_run.proofs.Crossings.{First, job_send, ran_send, two_send}
use Rattle.live_seats.proofs.Crossings.{around_sync}
use Rattle.live_run.proofs.Joins.{few_of, free_idle, idle_more, next_free, rest_free, thread_more, thread_none}
use Rattle.live_run.proofs.lanes.fn.run_lanes.scope.Goals as goal

pub spawn_with-requires-clause-runs : goal.spawn_with-requires-clause-runs
spawn_with-requires-clause-runs g c =
    let was = c.loop-seat.invariant in
    let free : IsFree (lane_kinds.Seat c.captures.work.seats c.loop-seat.made) c.captures.work.lines.now c.in-Some.seat =
    next_free c.captures.work.seats c.loop-seat.made c.captures.work.lines.now c.loop-seat.free.items
    c.pop.new.self.items c.in-Some.seat was.free c.in-Some.ensures.items (omega (arith, c.loop-seat.free.ok.0)) in
    search rules

pub loop-seat-preserved : goal.loop-seat-preserved
loop-seat-preserved g c =
    let was = c.loop-seat.invariant in
    let made = c.loop-seat.made in
    let seats = c.captures.work.seats in
    let lines = c.captures.work.lines.now in
    let start = c.captures.work.start.now.id in
    let child : IsThread start seats lines made c.in-Ok.child.promise =
    subst (λ (p : LaneOf). IsThread start seats lines made p) (sym c.in-Ok.ensures.ok) (refl, refl, refl, refl) in
    let popped : vec_len c.pop.new.self + 1 ≡ vec_len c.loop-seat.free = c.in-Some.ensures.cases in
    let pushed : vec_capacity c.push_reserved.new.self ≡ vec_capacity c.loop-seat.children = c.push_reserved.ensures.capacity in
    record {
      number = omega arith;
      few = search rules;
      made = omega arith;
      room = omega arith;
      threads = thread_more start seats made lines c.loop-seat.children.items c.push_reserved.new.self.items
          c.in-Ok.child (λ h. h.promise) was.threads (omega (arith, c.loop-seat.children.ok.0))
          c.push_reserved.ensures.items child;
      free = rest_free seats lines c.loop-seat.free.items c.pop.new.self.items c.in-Some.seat was.free
          c.in-Some.ensures.items;
      last = search rules;
      ended = search rules;
    }

pub call_here-ran-requires : goal.call_here-ran-requires
call_here-ran-requires g c =
    let was = c.loop-seat.invariant in
    let free : IsFree (lane_kinds.Seat c.captures.work.seats c.loop-seat.made) c.captures.work.lines.now c.in-Some.seat =
    next_free c.captures.work.seats c.loop-seat.made c.captures.work.lines.now c.loop-seat.free.items
    c.pop.new.self.items c.in-Some.seat was.free c.in-Some.ensures.items (omega (arith, c.loop-seat.free.ok.0)) in
    let v = c.in-Err.refused.value in
    let free_there : IsFree (lane_kinds.Seat v.1.lane.seats v.1.lane.seat) v.1.lane.lines.now v.1.seat =
    rw c.in-Err.ensures.err free in
    let asked_there : Each (IsAsked (length g.K.Row.cells)) v.1.lane.lines.now = rw c.in-Err.ensures.err c.requires.asked in
    search rules

pub take_lines-requires-clause-room : goal.take_lines-requires-clause-room
take_lines-requires-clause-room g c =
    let few = few_of (lane_kinds.Rest c.captures.work.seats c.loop-seat.made) c.captures.work.lines.now in
    let room = c.loop-seat.invariant.last.1 in omega arith

pub take_lines-requires-2-clause-room : goal.take_lines-requires-2-clause-room
take_lines-requires-2-clause-room g c =
    let few = few_of (lane_kinds.Rest c.captures.work.seats c.loop-seat.made) c.captures.work.lines.now in
    let room = c.loop-seat.invariant.last.1 in omega arith

pub end_lanes-requires-clause-idle : goal.end_lanes-requires-clause-idle
end_lanes-requires-clause-idle g c =
    let was = c.loop-seat.invariant in
    let made = c.loop-seat.made in
    let seats = c.captures.work.seats in
    let lines = c.captures.work.lines.now in
    let rest : AreFree seats lines c.pop.new.self.items =
    rest_free seats lines c.loop-seat.free.items c.pop.new.self.items c.in-Some.seat was.free c.in-Some.ensures.items in
    let v = c.in-Err.refused.value in
    let thread : IsThread c.captures.work.start.now.id seats lines made v.1.lane = (
      ap (λ f. f.1.lane.start.now.id) c.in-Err.ensures.err,
      ap (λ f. f.1.lane.lines.now) c.in-Err.ensures.err,
      ap (λ f. f.1.lane.seats) c.in-Err.ensures.err,
      ap (λ f. f.1.lane.seat) c.in-Err.ensures.err,
    ) in
    let taken : HasTaken (thread_lines v.1.lane.seats v.1.lane.seat c.call_here-ran.result.token.value.made v.1.lane.lines.now)
    c.call_here-ran.result.seat = search rules in
    let told : c.call_here-ran.result.token.value.made ≡ made =
    ap (λ t. t.made) c.agrees.ensures ∙ c.tell_start-token.ensures.made in
    let one : HasTaken [] c.call_here-ran.result.seat =
    thread_none c.captures.work.start.now.id seats made c.call_here-ran.result.token.value.made lines v.1.lane
    c.call_here-ran.result.seat thread taken told in
    let idle : AreIdle c.push_reserved-in-Err.new.self.items =
    idle_more c.pop.new.self.items c.push_reserved-in-Err.new.self.items c.call_here-ran.result.seat
    (free_idle seats lines c.pop.new.self.items rest) c.push_reserved-in-Err.ensures.items one in
    search (idle)

pub spawn_with-requires-send-F : goal.spawn_with-requires-send-F
spawn_with-requires-send-F g c κs within =
    let a : NamedLft = record { mir = named 3; lft = κs.1.1.1.0 } in
    let l : NamedLft = record { mir = named 7; lft = κs.1.1.1.1.1.1.1.0 } in
    let shared : IsSync (param 0 g.row.R) = c.requires.bounds.0 in
    let live : IsSync (around_contract.the_row a l (param 1 g.row.K) (param 2 g.row.N) (param 3 g.row.D) (param 4 g.row.G)
    g.K.Opening g.K.Row g.D.Disk g.K.Ledger g.N.Ledger) = search (around_sync, param_sync, param_send) depth 20 in
    let first : First IsSend (job.the_type a l (param 1 g.row.K) (param 2 g.row.N) (param 3 g.row.D) (param 4 g.row.G)
    g.K.Opening g.K.Row g.D.Disk g.K.Ledger g.N.Ledger).parts = shr_send _ _ _ live in
    param_send 2 _ (arg_send _ no _ (two_send _ _ _ (shr_send _ _ (param 0 g.row.R) shared)
    (job_send a l (param 1 g.row.K) (param 2 g.row.N) (param 3 g.row.D) (param 4 g.row.G) g.K.Opening g.K.Row g.D.Disk
    g.K.Ledger g.N.Ledger first)))

pub spawn_with-requires-send-T : goal.spawn_with-requires-send-T
spawn_with-requires-send-T g c κs within =
    param_send 3 _ (arg_send _ no _
    (ran_send _ (param 1 g.row.K) (param 2 g.row.N) g.K.Opening g.K.Ledger g.K.Row g.N.Ledger))
