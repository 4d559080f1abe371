use Rattle.std.proofs.Common.{◌≡◌, IfSome, rules, sym, subst}
use Rattle.std.specs.Arc.{arc_value}
use Rattle.live_book.specs.declared.published.Published.{Published}
use Rattle.live_book.specs.Commits.{entry_of}
use Rattle.version_steps.specs.Inner.Drafts.{IsDraftOf}
use Rattle.live_book.proofs.Configs.{drafts_at}
use Rattle.live_book.proofs.live.draft_ahead.Goals as goal

pub returns-in-Ok-clause-draft : goal.returns-in-Ok-clause-draft
returns-in-Ok-clause-draft c =
    let same : c.deref.result.now ≡ arc_value c.in-Ok.seen.version = search rules in
    drafts_at c.look.new.self.list (entry_of c.args.session c.args.line c.args.act.now) c.draft_over.result c.in-Ok.seen.number (arc_value c.in-Ok.seen.version) c.in-Ok.ensures.last
    (subst (λ (x : Published). IfSome c.draft_over.result (IsDraftOf x.version (entry_of c.args.session c.args.line c.args.act.now))) same c.draft_over.ensures)
