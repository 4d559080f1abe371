use Rattle.std.proofs.Common.{Some, ℕ, ap, sym, ◌∙◌, subst}
use Rattle.query_workers.specs.session_core.declared.line.Reply.{Reply}
use Rattle.query_workers.specs.session_core.declared.head.Head.{Head}
use Rattle.query_workers.specs.session_core.Inner.Told.{head_of, or_memory}
use Rattle.live_seats.specs.Inner.Replies.{RepliesTo}
use Rattle.live_seats.proofs.Lines.{after_replies}
use Rattle.live_seats.proofs.line.take_after.Goals as goal

pub returns-clause-replies : goal.returns-clause-replies
returns-clause-replies g c count looks acts =
    subst (λ (r : Reply). RepliesTo g.K.Opening.opened c.args.pass.now.list c.go_on.new.pass.list count count looks looks acts acts c.args.line.now r (Some c.hear-told.result.0.noted))
    (sym (c.or_memory-reply.ensures ∙ ap (λ (h : Head). or_memory h c.go_on.result) c.head.ensures))
    (subst (λ (n : ℕ). RepliesTo g.K.Opening.opened c.args.pass.now.list c.go_on.new.pass.list count count looks looks acts acts c.args.line.now (or_memory (head_of c.args.line.now) c.go_on.result) (Some n))
    (sym c.hear-told.ensures.number)
    (after_replies g.K.Opening.opened c.args.pass.now.list c.go_on.new.pass.list count looks acts c.args.line.now c.go_on.ensures.learnt c.requires.place
    c.args.earlier c.hear-told.result.1 c.go_on.result c.requires.asks c.go_on.ensures.went))
