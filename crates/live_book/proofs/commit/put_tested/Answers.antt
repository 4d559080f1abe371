use Rattle.version_steps.specs.edit_rules.declared.commit_fault.EditFault.TheVariants as edit_faults
use Rattle.live_book.specs.Inner.Kept.{book_of}
use Rattle.live_book.proofs.Committing.{refused_commits}
use Rattle.live_book.proofs.Answering.{memory_is_none}
use Rattle.live_book.proofs.commit.put_tested.Goals as goal

pub returns-in-Err-clause-commits : goal.returns-in-Err-clause-commits
returns-in-Err-clause-commits g c =
    refused_commits g.D.Disk.may_leave g.D.Disk.moment g.D.Disk.left_since g.D.Disk.faults g.met.D.Disk.only_now (book_of c.args.parts.now) c.args.entry edit_faults.Memory tt memory_is_none
