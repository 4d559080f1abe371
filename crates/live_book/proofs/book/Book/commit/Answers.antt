use Rattle.version_steps.specs.edit_rules.declared.commit_fault.EditFault.TheVariants as edit_faults
use Rattle.live_book.specs.Commits.{entry_of}
use Rattle.live_book.proofs.Committing.{refused_commits}
use Rattle.live_book.proofs.Answering.{memory_is_none}
use Rattle.live_book.proofs.book.Book.commit.Goals as goal

pub returns-in-Err : goal.returns-in-Err
returns-in-Err g c =
    refused_commits g.D.Disk.may_leave g.D.Disk.moment g.D.Disk.left_since g.D.Disk.faults g.met.D.Disk.only_now c.args.self.now (entry_of c.args.session c.args.line c.args.act.now) edit_faults.Memory tt memory_is_none
