use Rattle.std.proofs.Common.{sym, ◌∙◌, ap}
use Rattle.version_gate.specs.Inner.Snapshots.{entry_of}
use Rattle.version_gate.proofs.Adding.{adds_moves}
use Rattle.version_gate.proofs.published.add_entry.Goals as goal

pub compare_exchange-found-requires : goal.compare_exchange-found-requires
compare_exchange-found-requires g c =
    let h = c.requires.word in
    let offer = c.plain-offer.ensures in
    let pen = c.no_pen-pen.ensures in
    let r = c.requires.rises in (
      ap (λ w. w.tracked) h,
      sym (ap (λ w. w.book) h),
      pen.0 ∙ sym (ap (λ w. w.book) h),
      offer.0,
      rw (ap (λ w. w.key) h, pen.1, offer.1, offer.3) (adds_moves c.args.seen.now.log (entry_of c.args.next.now) c.args.published r.0 c.requires.counted r.1 r.2),
    )
