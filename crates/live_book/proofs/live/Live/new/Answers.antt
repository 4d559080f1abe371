use Rattle.std.proofs.Common.{ℕ, sym, subst}
use Rattle.live_book.specs.Live.{Opened, HasGrown, opening_of}
use Rattle.live_book.proofs.Living.{none_yet}
use Rattle.live_book.proofs.live.Live.new.Goals as goal

pub invariant_of-new : goal.invariant_of-new
invariant_of-new g c =
    let book = c.args.book in
    let start : HasGrown g.D.Disk.may_leave g.D.Disk.faults (opening_of g.D.Disk.faults book) 0 0 book = none_yet g.D.Disk.may_leave g.D.Disk.faults book c.history-entries.ensures.opened c.requires.sound in
    subst (λ (o : Opened). HasGrown g.D.Disk.may_leave g.D.Disk.faults o c.open-accepted.result.0.total c.open-refused.result.0.total book) (sym c.requires.opening)
    (subst (λ (n : ℕ). HasGrown g.D.Disk.may_leave g.D.Disk.faults (opening_of g.D.Disk.faults book) n c.open-refused.result.0.total book) (sym c.open-accepted.ensures.total)
    (subst (λ (n : ℕ). HasGrown g.D.Disk.may_leave g.D.Disk.faults (opening_of g.D.Disk.faults book) 0 n book) (sym c.open-refused.ensures.total) start))
