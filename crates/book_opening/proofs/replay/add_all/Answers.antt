use Rattle.std.proofs.Common.{◌≡◌, ℕ, List, suc, take, drop, refl, sym, subst, arith}
use Rattle.edit_journal.specs.declared.body.Body.{Body}
use Rattle.edit_journal.specs.Held.{texts_of}
use Rattle.live_book.specs.Histories.{IsNoNext}
use Rattle.book_opening.specs.Inner.Opens.{IsReplay}
use Rattle.book_opening.specs.Inner.Prepared.{IsWrongTail}
use Rattle.book_opening.proofs.Readings.{texts_next, split_here, still_wrong, wrong_tail}
use Rattle.book_opening.proofs.replay.add_all.Goals as goal

pub bodies-preserved : goal.bodies-preserved
bodies-preserved c =
    let config = c.args.opening in
    let all = c.args.bodies.now in
    let front = texts_of (take c.bodies.body-index all) in
    subst (λ (t : List (List ℕ)). IsReplay config t c.add.new.replayed)
    (sym (texts_next all c.bodies.body-index c.body-item.result (omega (arith, c.bodies-test.true)) c.body-item.is))
    (c.in_ok-add.ensures.ok config front c.bodies.invariant)

pub returns-in_err-add-clause-err : goal.returns-in_err-add-clause-err
returns-in_err-add-clause-err c =
    let config = c.args.opening in
    let all = c.args.bodies.now in
    let i = c.bodies.body-index in
    let texts = texts_of (take i all) in
    let body : Body = c.body-item.result in
    let split = split_here all i body (omega (arith, c.bodies-test.true)) c.body-item.is in
    still_wrong c.from_residual.result c.in_err-add.field-0.0 (λ at. (at ≡ body.at) × IsNoNext config c.bodies.replayed.entries body.bytes)
    (IsWrongTail config all) c.from_residual.ensures.1
    (λ at is. wrong_tail config texts c.bodies.replayed c.bodies.invariant all (take i all) (drop (suc i) all) body at split refl is.0 is.1)
    (c.in_err-add.ensures.err config texts c.bodies.invariant)
