use Rattle.version_steps.specs.edit_rules.declared.commit_fault.EditFault.TheVariants as edit_faults
use Rattle.live_book.specs.Commits.{entry_of}
use Rattle.live_book.specs.Inner.Inverses.{numbered}
use Rattle.live_book.specs.Inner.Kept.{book_of}
use Rattle.live_book.proofs.Committing.{refused_commits}
use Rattle.live_book.proofs.Answering.{memory_is_none}
use Rattle.live_book.proofs.Configs.{commits_as}
use Rattle.live_book.proofs.Inverses.{keeps_as}
use Rattle.live_book.proofs.book.Book.commit_kept.Goals as goal

pub returns-in-Err-clause-commits : goal.returns-in-Err-clause-commits
returns-in-Err-clause-commits g c =
    refused_commits g.D.Disk.may_leave g.D.Disk.moment g.D.Disk.left_since g.D.Disk.faults g.met.D.Disk.only_now c.args.self.now (entry_of c.args.session c.args.line c.args.act.now) edit_faults.Memory tt memory_is_none

pub returns-in-Ok-clause-commits : goal.returns-in-Ok-clause-commits
returns-in-Ok-clause-commits g c =
    commits_as g.D.Disk.may_leave g.D.Disk.moment g.D.Disk.left_since g.D.Disk.faults c.args.self.now (book_of c.self.inside.parts) c.in-Ok.entry (entry_of c.args.session c.args.line c.args.act.now)
    (numbered c.commit_noted_in.result) _ c.self.view_is c.in-Ok.ensures c.commit_noted_in.ensures.commits

pub returns-in-Ok-clause-inverse : goal.returns-in-Ok-clause-inverse
returns-in-Ok-clause-inverse g c =
    keeps_as c.args.self.now (book_of c.self.inside.parts) c.in-Ok.entry (entry_of c.args.session c.args.line c.args.act.now) c.commit_noted_in.result c.self.view_is c.in-Ok.ensures c.commit_noted_in.ensures.inverse
