use Rattle.std.proofs.Common.{◌≡◌, ◌∙◌, min, length, take, ap, arith}
use Rattle.std.proofs.lemmas.List.{take_min}
use Rattle.emu_disk.proofs.bytes.keep_front.Goals as goal

pub returns : goal.returns
returns c =
    let old = c.args.bytes.now.items in
    let fewer : c.min-len.result ≡ min c.args.len (length old) = omega (arith, c.args.bytes.now.ok.0) in
    c.truncate.ensures.items ∙ ap (λ n. take n old) fewer ∙ take_min c.args.len old
