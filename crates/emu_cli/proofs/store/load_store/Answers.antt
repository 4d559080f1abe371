use Rattle.std.proofs.Common.{None, inl, inr}
use Rattle.emu_cli.proofs.Images.{disk_images}
use Rattle.emu_cli.proofs.Opened.{none_later, none_leaves, none_opened, some_opened, some_untouched}
use Rattle.emu_cli.proofs.store.load_store.Goals as goal

pub returns-in-Bare : goal.returns-in-Bare
returns-in-Bare g c =
    let bare = none_opened g.D.Disk.may_leave (g.D.Disk.reads c.args.disk) c.in-Ok.opened c.in-Bare.journal c.in-Bare.is c.in-Ok.ensures.opened in
    inl (c.in-Bare.journal, bare.0, c.load_and_close.ensures c.args.disk (none_later g.D.Disk.faults c.in-Ok.opened c.in-Bare.journal (g.D.Disk.faults c.args.disk) c.in-Bare.is c.in-Ok.ensures.later) (none_leaves g.D.Disk.moment g.D.Disk.left_since (g.D.Disk.may_leave c.args.disk) c.args.disk c.in-Ok.opened c.in-Bare.journal c.in-Bare.is c.in-Ok.ensures.any_moment))

pub returns-in-Stored : goal.returns-in-Stored
returns-in-Stored g c =
    let b = some_opened g.D.Disk.may_leave (g.D.Disk.reads c.args.disk) c.in-Ok.opened c.in-Stored.book c.in-Stored._passes c.in-Stored.is c.in-Ok.ensures.opened in
    inr (
      inl (c.in-Stored.book.config, c.in-Stored.book.history, b.begins, disk_images g.D.Disk.may_leave c.in-Stored.book.journal c.keep_and_close.result.disk c.keep_and_close.ensures.disk c.in-Stored.book.config c.in-Stored.book.history None b.keeps, c.keep_and_close.ensures.ending),
      some_untouched g.D.Disk.moment g.D.Disk.left_since (g.D.Disk.may_leave c.args.disk) c.args.disk c.keep_and_close.result.disk c.in-Ok.opened c.in-Stored.book c.in-Stored._passes c.in-Stored.is c.keep_and_close.ensures.disk c.in-Ok.ensures.any_moment,
    )
