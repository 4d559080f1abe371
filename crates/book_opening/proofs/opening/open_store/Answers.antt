use Rattle.std.proofs.Common.{◌≤◌, arith, sym, subst}
use Rattle.std.proofs.lemmas.Result.{IfOk-weaker, IfErr-weaker}
use Rattle.edit_journal.specs.Held.{texts_of}
use Rattle.emu_disk.specs.Disk.{LeavesOnly}
use Rattle.live_book.specs.Kept.{faults_in}
use Rattle.book_opening.specs.declared.fault.OpenFault.{OpenFault}
use Rattle.book_opening.specs.Inner.Opens.{IsNoStoreFor, LeavesFrom}
use Rattle.book_opening.proofs.Stores.{bare_as, opened_as, refused_as, same_journal, wrong_as}
use Rattle.book_opening.proofs.opening.open_store.Goals as goal

pub open_bodies-requires-clause-some : goal.open_bodies-requires-clause-some
open_bodies-requires-clause-some g c = omega (arith, c.if-len-eq0.false, c.len.ensures)

pub returns-then-len-eq0-clause-opened : goal.returns-then-len-eq0-clause-opened
returns-then-len-eq0-clause-opened g c =
    let found = c.in-Ok.found in
    bare_as g.D.Disk.may_leave (g.D.Disk.reads c.args.disk) found.bodies found.journal c.args.readers c.in-Ok.ensures.bodies
    (omega (arith, c.if-len-eq0.true, c.len.ensures)) c.in-Ok.ensures.holds

pub returns-in-Ok-clause-opened : goal.returns-in-Ok-clause-opened
returns-in-Ok-clause-opened g c =
    let found = c.in-Ok.found in
    IfOk-weaker c.open_bodies.result _ _
    (λ o is. opened_as g.D.Disk.may_leave (g.D.Disk.reads c.args.disk) found.bodies found.journal c.args.readers c.in-Ok.ensures.bodies
    c.in-Ok.ensures.places c.in-Ok.ensures.holds o is)
    c.open_bodies.ensures.ok

pub returns-in-Ok-clause-refused : goal.returns-in-Ok-clause-refused
returns-in-Ok-clause-refused g c =
    let found = c.in-Ok.found in
    IfErr-weaker c.open_bodies.result _ _
    (λ e is. wrong_as (g.D.Disk.reads c.args.disk) g.D.Disk.faults c.args.disk e.disk found.bodies e.fault c.in-Ok.ensures.bodies is.1)
    c.open_bodies.ensures.err

pub returns-in-Ok-clause-any_moment : goal.returns-in-Ok-clause-any_moment
returns-in-Ok-clause-any_moment g c =
    let found = c.in-Ok.found in
    IfOk-weaker c.open_bodies.result _ _
    (λ o is. same_journal g.D.Disk.may_leave
    (λ j. LeavesFrom g.D.Disk.moment g.D.Disk.left_since c.args.disk j (g.D.Disk.may_leave c.args.disk))
    (texts_of found.bodies) found.journal c.args.readers o is c.in-Ok.ensures.any_moment)
    c.open_bodies.ensures.ok

pub returns-in-Ok-clause-any_moment_err : goal.returns-in-Ok-clause-any_moment_err
returns-in-Ok-clause-any_moment_err g c =
    IfErr-weaker c.open_bodies.result _ _
    (λ e is. subst (λ d. LeavesOnly g.D.Disk.moment g.D.Disk.left_since c.args.disk d (g.D.Disk.may_leave c.args.disk))
    (sym is.0) c.in-Ok.ensures.any_moment)
    c.open_bodies.ensures.err

pub returns-in-Ok-clause-later : goal.returns-in-Ok-clause-later
returns-in-Ok-clause-later g c =
    let found = c.in-Ok.found in
    IfOk-weaker c.open_bodies.result _ _
    (λ o is. same_journal g.D.Disk.may_leave (λ j. g.D.Disk.faults c.args.disk ≤ faults_in g.D.Disk.faults j)
    (texts_of found.bodies) found.journal c.args.readers o is c.in-Ok.ensures.later)
    c.open_bodies.ensures.ok

pub returns-in-Ok-clause-later_err : goal.returns-in-Ok-clause-later_err
returns-in-Ok-clause-later_err g c =
    IfErr-weaker c.open_bodies.result _ _
    (λ e is. subst (λ d. g.D.Disk.faults c.args.disk ≤ g.D.Disk.faults d) (sym is.0) c.in-Ok.ensures.later)
    c.open_bodies.ensures.err

pub returns-clause-refused : goal.returns-clause-refused
returns-clause-refused g c =
    let refused = c.in-Err.refused in
    subst (λ (f : OpenFault). IsNoStoreFor (g.D.Disk.reads c.args.disk) g.D.Disk.faults c.args.disk f refused.disk) (sym c.fault_of.ensures)
    (refused_as (g.D.Disk.reads c.args.disk) g.D.Disk.faults c.args.disk refused.disk refused.fault c.in-Err.ensures.damaged c.in-Err.ensures.disk c.in-Err.ensures.not_full)
