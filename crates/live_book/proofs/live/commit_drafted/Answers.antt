use Rattle.std.proofs.Common.{◌≡◌, List, Option, Some, IfSome, refl, rules, subst}
use mathlib.Core.List.{IsPrefix}
use Rattle.version_gate.specs.declared.entry.Entry.{Entry as Numbered}
use Rattle.version_steps.specs.declared.draft.Draft.{Draft}
use Rattle.live_book.specs.declared.published.Published.{Published}
use Rattle.live_book.specs.Commits.{entry_of}
use Rattle.live_book.specs.Inner.Inverses.{numbered}
use Rattle.live_book.specs.Inner.Drafts.{IsDraftAt}
use Rattle.live_book.proofs.Configs.{commits_as, draft_in}
use Rattle.live_book.proofs.Inverses.{keeps_as}
use Rattle.live_book.proofs.live.commit_drafted.Goals as goal

pub commit_draft-requires : goal.commit_draft-requires
commit_draft-requires g c =
    let next = entry_of c.args.session c.args.line c.args.act.now in
    let given : c.args.draft ≡ Some c.in-Some.draft = search rules in
    let made : IsDraftAt c.args.pass.now.list next c.in-Some.draft = subst (λ (o : Option Draft). IfSome o (IsDraftAt c.args.pass.now.list next)) given c.requires.draft in
    draft_in c.args.book.now c.learn_all.new.book c.args.pass.now.list next c.in-Some.draft c.learn_all.ensures.same c.learn_all.ensures.shown
    (subst (λ (l : List (Numbered Published)). IsPrefix c.args.pass.now.list l) c.learn_all.ensures.whole c.learn_all.ensures.own) made

pub returns-in-Some-clause-commits : goal.returns-in-Some-clause-commits
returns-in-Some-clause-commits g c =
    let next = entry_of c.args.session c.args.line c.args.act.now in
    let given : c.args.draft ≡ Some c.in-Some.draft = search rules in
    let made : IsDraftAt c.args.pass.now.list next c.in-Some.draft = subst (λ (o : Option Draft). IfSome o (IsDraftAt c.args.pass.now.list next)) given c.requires.draft in
    commits_as g.D.Disk.may_leave g.D.Disk.moment g.D.Disk.left_since g.D.Disk.faults c.args.book.now c.learn_all.new.book c.in-Some.draft.entry next (numbered c.commit_draft.result) c.commit_draft.new.self
    c.learn_all.ensures.same made.is_draft.entry c.commit_draft.ensures.commits

pub returns-in-None-clause-commits : goal.returns-in-None-clause-commits
returns-in-None-clause-commits g c =
    commits_as g.D.Disk.may_leave g.D.Disk.moment g.D.Disk.left_since g.D.Disk.faults c.args.book.now c.learn_all.new.book (entry_of c.args.session c.args.line c.args.act.now) (entry_of c.args.session c.args.line c.args.act.now) (numbered c.commit_kept.result) c.commit_kept.new.self
    c.learn_all.ensures.same refl c.commit_kept.ensures.commits

pub returns-in-Some-clause-inverse : goal.returns-in-Some-clause-inverse
returns-in-Some-clause-inverse g c =
    let next = entry_of c.args.session c.args.line c.args.act.now in
    let given : c.args.draft ≡ Some c.in-Some.draft = search rules in
    let made : IsDraftAt c.args.pass.now.list next c.in-Some.draft = subst (λ (o : Option Draft). IfSome o (IsDraftAt c.args.pass.now.list next)) given c.requires.draft in
    keeps_as c.args.book.now c.learn_all.new.book c.in-Some.draft.entry next c.commit_draft.result c.learn_all.ensures.same made.is_draft.entry c.commit_draft.ensures.inverse

pub returns-in-None-clause-inverse : goal.returns-in-None-clause-inverse
returns-in-None-clause-inverse g c =
    keeps_as c.args.book.now c.learn_all.new.book (entry_of c.args.session c.args.line c.args.act.now) (entry_of c.args.session c.args.line c.args.act.now) c.commit_kept.result
    c.learn_all.ensures.same refl c.commit_kept.ensures.inverse
