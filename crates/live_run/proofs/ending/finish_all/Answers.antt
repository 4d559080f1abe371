use Rattle.std.proofs.Common.{List, length, map, arith, ap, ◌∙◌, sym, refl, subst}
use Rattle.std.specs.Vec.Iter.{into_iter_items}
use Rattle.version_gate.specs.declared.entry.Entry.{Entry as Numbered}
use Rattle.live_seats.specs.session_core.Worlds.{Each}
use Rattle.live_seats.specs.live_book.declared.published.Published.{Published}
use Rattle.live_seats.specs.live_laws.Lanes.{Step}
use Rattle.live_run.specs.Inner.Running.{HasEnded}
use Rattle.live_run.proofs.Joins.{each_more, map_more, moved, none_moved}
use Rattle.live_run.proofs.ending.finish_all.Goals as goal

pub loop-rest-init : goal.loop-rest-init
loop-rest-init g c = record {
  same = refl;
  steps = none_moved c.args.lanes.items (into_iter_items c.into_iter-rest-iterator.result) (λ v. v.items) (λ r. r.steps)
      c.requires.room.0;
  ended = rw c.requires.room.0 tt;
  room =
      let none = ap (λ xs. length xs) c.requires.room.0 in
      let gives = c.into_iter-rest-iterator.ensures.into_iter_gives in
      omega (arith, c.args.lanes.ok.0);
}

pub loop-rest-preserved : goal.loop-rest-preserved
loop-rest-preserved g c =
    let was = c.loop-rest.invariant in
    let step = c.in-Some.ensures.steps in
    let old = into_iter_items c.loop-rest.rest-iterator in
    let rest = into_iter_items c.next.new.self in
    let list = c.args.book.now.list in
    let P : List Step → Type 0 = HasEnded g.K.Opening.opened list in
    let ended : HasEnded g.K.Opening.opened list c.finish.result.items =
    subst (λ (l : List (Numbered Published)). HasEnded g.K.Opening.opened l c.finish.result.items)
    (ap (λ b. b.list) was.same) c.finish.ensures.ended in
    let more = map_more c.loop-rest.lanes.items c.push_reserved.new.self.items c.finish.result (λ v. v.items)
    c.push_reserved.ensures.items in
    record {
      same = c.finish.ensures.same ∙ was.same;
      steps = moved (map (λ r. r.steps) (into_iter_items c.into_iter-rest-iterator.result)) c.loop-rest.lanes.items
          c.push_reserved.new.self.items c.finish.result old rest c.in-Some.rest (λ v. v.items) (λ r. r.steps)
          c.push_reserved.ensures.items step.0 c.finish.ensures.steps was.steps;
      ended = subst (λ (ran : List (List Step)). Each P ran) (sym more)
          (each_more P (map (λ v. v.items) c.loop-rest.lanes.items) c.finish.result.items was.ended ended);
      room = omega arith;
    }
