use Rattle.std.proofs.Common.{rules, ◌≡◌, Option, Some, Result, Ok, refl, sym, subst}
use Rattle.edit_rules.specs.declared.acts.Act.{Act}
use Rattle.live_book.specs.edit_undo.declared.faults.NoUndo.{NoUndo}
use Rattle.query_workers.specs.session_core.Inner.Kept.{head_entry}
use Rattle.query_workers.specs.session_core.Undos.{latest_of}
use Rattle.edit_rules.specs.declared.commit_fault.EditFault.TheVariants as faults
use Rattle.live_book.proofs.Answering.{memory_is_none}
use Rattle.live_book.proofs.Committing.{refused_commits}
use Rattle.session_run.specs.Inner.Taken.{UndoesBook}
use Rattle.session_run.proofs.Commits.{wanting}
use Rattle.session_run.proofs.turns.undo.Goals as goal

pub returns-in-Err : goal.returns-in-Err
returns-in-Err g c =
    let act : Act = c.in-Some-Ok.act in
    let found : latest_of c.args.head.session.0 c.args.earlier c.args.kept.now.acts ≡ Some (Ok c.in-Some-Ok.act) = search rules in
    subst (λ (o : Option (Result Act NoUndo)). UndoesBook g.D.Disk.may_leave g.D.Disk.moment g.D.Disk.left_since g.D.Disk.faults c.args.book.now c.args.kept.now.acts c.args.head o c.memory_reply.result c.args.book.now c.args.kept.now.acts) (sym found)
    (wanting g.D.Disk.may_leave g.D.Disk.moment g.D.Disk.left_since g.D.Disk.faults c.args.book.now c.args.kept.now.acts c.args.kept.now.acts c.args.head act c.memory_reply.result
    (refused_commits g.D.Disk.may_leave g.D.Disk.moment g.D.Disk.left_since g.D.Disk.faults g.met.D.Disk.only_now c.args.book.now (head_entry c.args.head act) faults.Memory tt memory_is_none)
    refl c.memory_reply.ensures)
