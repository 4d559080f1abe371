use Rattle.std.proofs.Common.{refl, ◌∙◌}
use Rattle.query_workers.specs.session_core.Undos.{latest_of}
use Rattle.query_workers.specs.session_core.Inner.Told.{head_of}
use Rattle.session_run.proofs.Commits.{edit_taken, gate_kept, gate_undone, undo_taken}
use Rattle.session_run.proofs.Others.{after_taken, finish_taken, look_taken, query_taken}
use Rattle.session_run.proofs.turns.take_line.Goals as goal

pub returns-in-Edit-clause-taken : goal.returns-in-Edit-clause-taken
returns-in-Edit-clause-taken g c =
    edit_taken _ _ _ _ c.args.book.now c.try_edit.new.book c.args.looks.now c.args.kept.now.acts c.try_edit.new.kept.acts c.args.line c.try_edit.result
    c.requires.held c.requires.acts c.in-Edit.given c.in-Edit.is (rw c.in-Edit.given-is at c.try_edit.ensures)

pub returns-in-Edit-clause-gate : goal.returns-in-Edit-clause-gate
returns-in-Edit-clause-gate g c =
    c.requires.gate
    ∙ gate_kept g.D.Disk.may_leave g.D.Disk.moment g.D.Disk.left_since g.D.Disk.faults c.args.book.now c.try_edit.new.book c.args.kept.now.acts c.try_edit.new.kept.acts (head_of c.args.line) c.try_edit.result
    c.in-Edit.given (rw c.in-Edit.given-is at c.try_edit.ensures)

pub returns-in-Undo-clause-taken : goal.returns-in-Undo-clause-taken
returns-in-Undo-clause-taken g c =
    undo_taken _ _ _ _ c.args.book.now c.undo.new.book c.args.looks.now c.args.kept.now.acts c.undo.new.kept.acts c.args.line c.undo.result
    c.requires.held c.requires.acts c.in-Undo.earlier c.in-Undo.is (rw c.in-Undo.earlier-is at c.undo.ensures)

pub returns-in-Undo-clause-gate : goal.returns-in-Undo-clause-gate
returns-in-Undo-clause-gate g c =
    c.requires.gate
    ∙ gate_undone g.D.Disk.may_leave g.D.Disk.moment g.D.Disk.left_since g.D.Disk.faults c.args.book.now c.undo.new.book c.args.kept.now.acts c.undo.new.kept.acts (head_of c.args.line) c.undo.result
    (latest_of c.args.line.session.0 c.in-Undo.earlier c.args.kept.now.acts) (rw c.in-Undo.earlier-is at c.undo.ensures)

pub returns-in-Query-clause-taken : goal.returns-in-Query-clause-taken
returns-in-Query-clause-taken g c =
    rw c.or_memory.ensures
    (query_taken _ _ _ _ c.args.book.now c.answer_query.new.book c.args.looks.now c.args.kept.now.acts c.args.line c.answer_query.ensures.same c.requires.held c.requires.acts
    c.in-Query.ask c.answer_query.result c.in-Query.is c.requires.place (rw c.in-Query.ask-is at c.answer_query.ensures.ok))

pub returns-in-Look-clause-taken : goal.returns-in-Look-clause-taken
returns-in-Look-clause-taken g c =
    rw c.or_memory-in-Look.ensures
    (look_taken _ _ _ _ c.args.book.now c.open_look.new.book c.args.looks.now c.args.kept.now.acts c.args.line c.open_look.ensures.same c.requires.held c.requires.acts
    c.in-Look.ask c.open_look.new.looks c.open_look.result c.in-Look.is (rw c.in-Look.ask-is at c.open_look.ensures.ok) c.open_look.ensures.err)

pub returns-in-Finish-clause-taken : goal.returns-in-Finish-clause-taken
returns-in-Finish-clause-taken g c =
    rw c.or_memory-in-Finish.ensures
    (finish_taken _ _ _ _ c.args.book.now c.args.book.now c.args.looks.now c.args.kept.now.acts c.args.line refl c.requires.held c.requires.acts
    c.close_look.new.looks c.close_look.result c.in-Finish.is c.close_look.ensures.ok c.close_look.ensures.err)

pub returns-in-After-clause-taken : goal.returns-in-After-clause-taken
returns-in-After-clause-taken g c =
    after_taken _ _ _ _ c.args.book.now c.args.book.now c.args.looks.now c.args.kept.now.acts c.args.line refl c.requires.held c.requires.acts
    c.in-After.field-0 c.number.result c.reply.result c.in-After.is c.number.ensures c.reply.ensures
