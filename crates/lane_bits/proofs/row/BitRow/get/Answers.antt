use Rattle.std.proofs.Common.{◌/◌, ◌%◌, ◌<◌, Bool, List, length, get_or, nat_eq, slice_get, Some, ap, sym, subst, ◌∙◌}
use Rattle.std.proofs.lemmas.Nat.Bits.{shr_and_one}
use Rattle.std.specs.Int.{bit_at}
use Rattle.lane_bits.specs.Inner.Words.{bits_of}
use Rattle.lane_bits.proofs.Rows.{shown}
use Rattle.lane_bits.proofs.row.BitRow.get.Goals as goal

pub returns : goal.returns
returns c =
    let words = c.self.inside.words.items in
    let at = c.args.at in
    let seen = c.self.view_is in
    let within : at < length (bits_of c.self.inside.len words) = subst (λ (bs : List Bool). at < length bs) (sym seen) c.requires in
    ap (λ bs. slice_get bs at) (sym seen) ∙ shown words c.self.inside.len at within
    ∙ ap (λ ws. Some (nat_eq (bit_at (get_or ws (at / 64) 0) (at % 64)) 1)) (sym c.as_slice-words.ensures)
    ∙ ap (λ n. Some (nat_eq n 1)) (sym (shr_and_one (get_or c.as_slice-words.result.now (at / 64) 0) (at % 64)))
