use Rattle.std.proofs.Common.{◌≡◌, ◌||◌, false, length, ap, sym, ◌∙◌}
use Rattle.std.proofs.lemmas.Simd.{length-replicate, length-zip2}
use Rattle.test_match.proofs.spans.meets_of.Goals as goal

pub meets-meets-requires : goal.meets-meets-requires
meets-meets-requires c =
    let long : length c.in_ok-bits.bits ≡ length c.args.other.now =
    ap length c.in_ok-bits.ensures ∙ length-replicate c.len.result false ∙ c.len.ensures in
    c.requires ∙ sym long ∙ sym (length-zip2 (λ a b. a || b) c.in_ok-bits.bits c.args.other.now long) ∙ sym (ap length c.join_into.ensures)
