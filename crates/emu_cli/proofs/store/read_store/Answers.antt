use Rattle.std.proofs.Common.{None, inl, inr}
use Rattle.emu_cli.proofs.Images.{bare_images, disk_images}
use Rattle.emu_cli.proofs.Opened.{none_opened, some_opened, some_untouched}
use Rattle.emu_cli.proofs.store.read_store.Goals as goal

pub returns-in-Stored-clause-ending : goal.returns-in-Stored-clause-ending
returns-in-Stored-clause-ending g c =
    let b = some_opened g.D.Disk.may_leave (g.D.Disk.reads c.args.disk) c.in-Ok.opened c.in-Stored.book c.in-Stored._passes c.in-Stored.is c.in-Ok.ensures.opened in
    inl (c.in-Stored.book.config, c.in-Stored.book.history, b.begins, disk_images g.D.Disk.may_leave c.in-Stored.book.journal c.read_and_close.result.disk c.read_and_close.ensures.disk c.in-Stored.book.config c.in-Stored.book.history None b.keeps, c.read_and_close.ensures.ending)

pub returns-in-Stored-clause-untouched : goal.returns-in-Stored-clause-untouched
returns-in-Stored-clause-untouched g c =
    some_untouched g.D.Disk.moment g.D.Disk.left_since (g.D.Disk.may_leave c.args.disk) c.args.disk c.read_and_close.result.disk c.in-Ok.opened c.in-Stored.book c.in-Stored._passes c.in-Stored.is c.read_and_close.ensures.disk c.in-Ok.ensures.any_moment

pub returns-in-Bare-clause-ending : goal.returns-in-Bare-clause-ending
returns-in-Bare-clause-ending g c =
    let bare = none_opened g.D.Disk.may_leave (g.D.Disk.reads c.args.disk) c.in-Ok.opened c.in-Bare.journal c.in-Bare.is c.in-Ok.ensures.opened in
    inr (inl (bare.0, bare_images g.D.Disk.may_leave c.in-Bare.journal c.bare.result.disk bare.1 c.bare.ensures.disk, c.bare.ensures.ending))
