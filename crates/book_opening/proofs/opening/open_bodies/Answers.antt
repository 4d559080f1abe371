use Rattle.std.proofs.Common.{sym, subst}
use Rattle.std.proofs.lemmas.Result.{IfOk-weaker, IfErr-weaker}
use Rattle.edit_journal.specs.Held.{texts_of}
use Rattle.book_opening.specs.declared.fault.OpenFault.{OpenFault}
use Rattle.book_opening.specs.Inner.Opens.{IsWrong, IsWrongIn}
use Rattle.book_opening.proofs.Stores.{opened_from}
use Rattle.book_opening.proofs.opening.open_bodies.Goals as goal

pub open_replayed-requires-clause-kept : goal.open_replayed-requires-clause-kept
open_replayed-requires-clause-kept g c =
    let history = rw c.as_slice.ensures at c.in-Ok.ensures.ok in
    (texts_of c.args.bodies.now, history, c.requires.holds)

pub returns-in-Ok-clause-ok : goal.returns-in-Ok-clause-ok
returns-in-Ok-clause-ok g c =
    let history = rw c.as_slice.ensures at c.in-Ok.ensures.ok in
    IfOk-weaker c.open_replayed.result _ _
    (λ o is. opened_from g.D.Disk.may_leave (texts_of c.args.bodies.now) c.args.journal c.in-Ok.replayed c.args.readers history o is)
    c.open_replayed.ensures.ok

pub returns-in-Ok-clause-err : goal.returns-in-Ok-clause-err
returns-in-Ok-clause-err g c =
    IfErr-weaker c.open_replayed.result _ _
    (λ e is. (is.0, subst (λ (f : OpenFault). IsWrong (IsWrongIn c.args.bodies.now) f) (sym is.1) tt))
    c.open_replayed.ensures.err
