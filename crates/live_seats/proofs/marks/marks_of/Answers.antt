use Rattle.std.proofs.Common.{arith, refl, sym, ap, ◌∙◌, ◌+◌, drop, subst, ◌≡◌, [], ◌∷◌, ◌++◌}
use Rattle.live_seats.specs.declared.marks.Mark.{Mark}
use Rattle.live_seats.specs.Marks.{marks_from}
use Rattle.live_seats.proofs.Marking.{is_mark_of, mark_first, mark_more, mark_of, marked}
use Rattle.live_seats.proofs.marks.marks_of.Goals as goal

-- src/marks.rt:39:5
pub loop-place-init : goal.loop-place-init
loop-place-init c = record {
  made = mark_first c.args.room.items (marks_from (c.args.from + 1) (drop c.args.from c.args.history.now)) (omega (arith, c.args.room.ok.0, c.requires.empty));
  long = omega (arith, c.requires.empty);
  room = refl;
}

-- src/marks.rt:41:9
pub push_reserved-requires : goal.push_reserved-requires
push_reserved-requires c = omega (arith, c.loop-place.invariant.long, c.loop-place.invariant.room, c.requires.room, c.loop-place-test.true, c.len-place-end.ensures)

-- src/marks.rt:39:5
pub loop-place-preserved : goal.loop-place-preserved
loop-place-preserved c =
    let all = marks_from (c.args.from + 1) (drop c.args.from c.args.history.now) in
    let at = c.loop-place.place + 1 in
    let pushed : c.push_reserved.new.self.items ≡ c.loop-place.marks.items ++ mark_of at c.get-entry.result.now ∷ [] =
    c.push_reserved.ensures.items
    ∙ ap (λ (m : Mark). c.loop-place.marks.items ++ m ∷ [])
    (is_mark_of at c.get-entry.result.now c.line.result c.session.result c.line.ensures c.session.ensures) in
    record {
      made = subst (λ l. l ++ marks_from (c.loop-place.place + 1 + 1) (drop (c.loop-place.place + 1) c.args.history.now) ≡ all) (sym pushed)
          (mark_more c.loop-place.marks.items all c.args.history.now c.loop-place.place c.get-entry.result.now c.get-entry.ensures c.loop-place.invariant.made);
      long = omega (arith, c.push_reserved.ensures.len, c.loop-place.invariant.long);
      room = c.push_reserved.ensures.capacity ∙ c.loop-place.invariant.room;
    }

-- src/marks.rt:33:1
pub returns : goal.returns
returns c = c.from_vec.ensures ∙ marked c.loop-place.marks.items (marks_from (c.args.from + 1) (drop c.args.from c.args.history.now)) c.args.history.now c.loop-place.place
    (omega (arith, c.loop-place-test.false, c.len-place-end.ensures)) c.loop-place.invariant.made
