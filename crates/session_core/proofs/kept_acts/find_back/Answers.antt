use Rattle.std.proofs.Common.{sym, ◌∙◌, arith}
use Rattle.session_core.proofs.Undoing.{found_at, passed_at}
use Rattle.session_core.proofs.kept_acts.find_back.Goals as goal

pub loop-place-preserved : goal.loop-place-preserved
loop-place-preserved c =
    let so = c.loop-place.invariant in
    record {
      within = omega (arith, so.within);
      rest = passed_at c.args.session.0 c.args.line c.args.list.now c.loop-place.place c.index-list-place.result
          c.loop-place-test.true so.within c.index-list-place.is (sym c.is_of.ensures ∙ c.if-is_of.false) ∙ so.rest;
    }

pub returns-then-is_of : goal.returns-then-is_of
returns-then-is_of c =
    let so = c.loop-place.invariant in
    sym (found_at c.args.session.0 c.args.line c.args.list.now c.loop-place.place c.index-list-place.result
    c.loop-place-test.true so.within c.index-list-place.is (sym c.is_of.ensures ∙ c.if-is_of.true)) ∙ so.rest
