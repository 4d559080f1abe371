use Rattle.live_book.specs.Inner.Kept.{book_of}
use Rattle.live_book.proofs.Committing.{refused_commits}
use Rattle.live_book.proofs.Answering.{no_disk_as}
use Rattle.live_book.proofs.commit.commit_kept_in.Goals as goal

pub returns-in-Err-clause-commits : goal.returns-in-Err-clause-commits
returns-in-Err-clause-commits g c =
    refused_commits g.D.Disk.may_leave g.D.Disk.moment g.D.Disk.left_since g.D.Disk.faults g.met.D.Disk.only_now (book_of c.args.parts.now) c.args.entry c.in-Err.fault c.in-Err.ensures.refused
    (no_disk_as c.in-Err.fault c.in-Err.ensures.no_disk)
