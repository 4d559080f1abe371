use Rattle.std.proofs.Common.{inl, inr}
use Rattle.emu_cli.proofs.Images.{bare_images}
use Rattle.emu_cli.proofs.Opened.{none_opened, none_untouched, some_later, some_leaves, some_opened}
use Rattle.emu_cli.proofs.store.import_store.Goals as goal

pub returns-in-Stored : goal.returns-in-Stored
returns-in-Stored g c =
    let b = some_opened g.D.Disk.may_leave (g.D.Disk.reads c.args.disk) c.in-Ok.opened c.in-Stored.book c.in-Stored._passes c.in-Stored.is c.in-Ok.ensures.opened in
    inl (
      c.in-Stored.book,
      b.begins,
      c.import_and_close.ensures c.args.disk (some_later g.D.Disk.faults c.in-Ok.opened c.in-Stored.book c.in-Stored._passes (g.D.Disk.faults c.args.disk) c.in-Stored.is c.in-Ok.ensures.later)
          (some_leaves g.D.Disk.moment g.D.Disk.left_since (g.D.Disk.may_leave c.args.disk) c.args.disk c.in-Ok.opened c.in-Stored.book c.in-Stored._passes c.in-Stored.is c.in-Ok.ensures.any_moment),
    )

pub returns-in-Bare : goal.returns-in-Bare
returns-in-Bare g c =
    let bare = none_opened g.D.Disk.may_leave (g.D.Disk.reads c.args.disk) c.in-Ok.opened c.in-Bare.journal c.in-Bare.is c.in-Ok.ensures.opened in
    inr (
      inl (bare.0, bare_images g.D.Disk.may_leave c.in-Bare.journal c.bare.result.disk bare.1 c.bare.ensures.disk, c.bare.ensures.ending),
      none_untouched g.D.Disk.moment g.D.Disk.left_since (g.D.Disk.may_leave c.args.disk) c.args.disk c.bare.result.disk c.in-Ok.opened c.in-Bare.journal c.in-Bare.is c.bare.ensures.disk c.in-Ok.ensures.any_moment,
    )
