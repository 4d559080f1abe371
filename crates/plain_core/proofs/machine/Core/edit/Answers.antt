use Rattle.session_core.specs.Undos.{latest_of}
use Rattle.session_core.proofs.Keeping.{head_of, kept_changed, kept_undone, given_told, undo_told}
use Rattle.plain_core.proofs.machine.Core.edit.Goals as goal

pub invariant_of-self-in-Edit : goal.invariant_of-self-in-Edit
invariant_of-self-in-Edit c =
    kept_changed c.self.inside.config (head_of c.args.line) c.in-Edit.given c.self.inside.entries c.try_given.new.entries c.self.inside.base c.self.inside.database c.try_given.new.database c.self.inside.kept.acts c.try_given.new.kept.acts c.self.inside.looks c.self.inside.queries
    c.in_ok-reply-in-Edit.reply (rw c.in-Edit.given-is at c.in_ok-reply-in-Edit.ensures.ok) c.self.invariant

pub returns-in-Edit-clause-ok : goal.returns-in-Edit-clause-ok
returns-in-Edit-clause-ok c =
    given_told c.self.inside.config c.args.self.now c.args.line c.in-Edit.given c.self.inside.entries c.try_given.new.entries c.self.inside.base c.self.inside.database c.try_given.new.database c.self.inside.kept.acts c.try_given.new.kept.acts c.self.inside.looks c.self.inside.queries
    c.in_ok-reply-in-Edit.reply c.self.view_is c.in-Edit.is (rw c.in-Edit.given-is at c.in_ok-reply-in-Edit.ensures.ok) c.self.invariant

pub invariant_of-self-in-Undo : goal.invariant_of-self-in-Undo
invariant_of-self-in-Undo c =
    kept_undone c.self.inside.config (head_of c.args.line) (latest_of c.args.line.session.0 c.in-Undo.earlier c.self.inside.kept.acts) c.self.inside.entries c.try_undo.new.entries c.self.inside.base c.self.inside.database c.try_undo.new.database c.self.inside.kept.acts c.try_undo.new.kept.acts c.self.inside.looks c.self.inside.queries
    c.in_ok-reply-in-Undo.reply c.in_ok-reply-in-Undo.ensures.ok c.self.invariant

pub returns-in-Undo-clause-ok : goal.returns-in-Undo-clause-ok
returns-in-Undo-clause-ok c =
    undo_told c.self.inside.config c.args.self.now c.args.line c.in-Undo.earlier c.self.inside.entries c.try_undo.new.entries c.self.inside.base c.self.inside.database c.try_undo.new.database c.self.inside.kept.acts c.try_undo.new.kept.acts c.self.inside.looks c.self.inside.queries
    c.in_ok-reply-in-Undo.reply c.self.view_is c.in-Undo.is c.in_ok-reply-in-Undo.ensures.ok c.self.invariant
