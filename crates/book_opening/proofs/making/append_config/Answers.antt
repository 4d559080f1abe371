use Rattle.std.specs.Prelude.{[], None}
use Rattle.book_opening.proofs.FirstBooks.{head_leaves, head_left, head_ok}
use Rattle.book_opening.proofs.making.append_config.Goals as goal

pub returns-in-Ok-clause-ok : goal.returns-in-Ok-clause-ok
returns-in-Ok-clause-ok g c =
    head_ok g.D.Disk.may_leave c.args.config.now c.requires.coded c.args.frame.now c.requires.frame c.append.new.self
    (c.in-Ok.ensures.ok [] None c.requires.empty)

pub returns-in-Ok-clause-any_moment : goal.returns-in-Ok-clause-any_moment
returns-in-Ok-clause-any_moment g c =
    head_leaves g.D.Disk.may_leave c.args.config.now c.requires.coded c.args.frame.now c.requires.frame c.append.new.self
    g.D.Disk.moment g.D.Disk.left_since c.args.journal.now (c.in-Ok.ensures.any_moment [] None c.requires.empty)

pub returns-in-Err-Disk-clause-any_moment : goal.returns-in-Err-Disk-clause-any_moment
returns-in-Err-Disk-clause-any_moment g c =
    head_leaves g.D.Disk.may_leave c.args.config.now c.requires.coded c.args.frame.now c.requires.frame c.append.new.self
    g.D.Disk.moment g.D.Disk.left_since c.args.journal.now (c.in-Err-Disk.ensures.any_moment [] None c.requires.empty)

pub returns-in-Err-Disk-clause-left : goal.returns-in-Err-Disk-clause-left
returns-in-Err-Disk-clause-left g c =
    head_left g.D.Disk.may_leave c.args.config.now c.requires.coded c.args.frame.now c.requires.frame c.append.new.self
    g.D.Disk.moment g.D.Disk.left_since g.met.D.Disk.counts_now c.args.journal.now (c.in-Err-Disk.ensures.any_moment [] None c.requires.empty)
