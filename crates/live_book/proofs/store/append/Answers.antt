use Rattle.live_book.proofs.Storing.{append_ok, append_moment}
use Rattle.live_book.proofs.store.append.Goals as goal

pub returns-in-Ok-clause-ok : goal.returns-in-Ok-clause-ok
returns-in-Ok-clause-ok g c = append_ok g.D.Disk.may_leave c.args.entry.now c.args.frame.now c.args.journal.now c.append.new.self c.requires.frame c.in-Ok.ensures.ok

pub returns-in-Ok-clause-any_moment : goal.returns-in-Ok-clause-any_moment
returns-in-Ok-clause-any_moment g c = append_moment g.D.Disk.may_leave g.D.Disk.moment g.D.Disk.left_since c.args.entry.now c.args.frame.now c.args.journal.now c.append.new.self c.requires.frame c.append.ensures.any_moment

pub returns-in-Err-Disk-clause-any_moment : goal.returns-in-Err-Disk-clause-any_moment
returns-in-Err-Disk-clause-any_moment g c = append_moment g.D.Disk.may_leave g.D.Disk.moment g.D.Disk.left_since c.args.entry.now c.args.frame.now c.args.journal.now c.append.new.self c.requires.frame c.append.ensures.any_moment
