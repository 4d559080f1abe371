use Rattle.std.proofs.Common.{◌≡◌, ◌∙◌, min, length, ap, arith}
use Rattle.emu_disk.specs.Disk.{put}
use Rattle.emu_disk.specs.Inner.Laws.{put_min}
use Rattle.emu_disk.proofs.bytes.write_over.Goals as goal

pub returns : goal.returns
returns c =
    let old = c.args.bytes.now.items in
    let here : c.min-at.result ≡ min c.args.at (length old) = omega (arith, c.args.bytes.now.ok.0) in
    c.overlay.ensures.bytes ∙ ap (λ l. put c.min-at.result c.args.with.now l) c.reserve.ensures.items ∙ ap (λ n. put n c.args.with.now old) here ∙ put_min c.args.at c.args.with.now old
