use Rattle.std.proofs.Common.{◌<◌, ◌++◌, ap, ◌∙◌, ℕ, List, length, arith, string_bytes, false}
use Rattle.segment_list.specs.Inner.Listing.{in_turn}
use Rattle.segment_list.specs.Inner.Pieces.{row_texts}
use Rattle.segment_list.proofs.Parted.{next_part}
use Rattle.segment_list.proofs.listing.push_parts.Goals as goal

pub loop-part-preserved : goal.loop-part-preserved
loop-part-preserved c =
    let parts = c.args.parts.now in
    let lt : c.loop-part.part-index < length parts = omega arith in
    let pushed = c.in_ok-push_str.ensures.bytes ∙ ap (λ (t : List ℕ). string_bytes c.loop-part.out ++ t) c.text.ensures in
    next_part (string_bytes c.loop-part.out) (string_bytes c.push_str.new.self)
    (string_bytes c.args.out.now ++ row_texts false (in_turn parts)) parts c.loop-part.part-index c.part-item.result
    c.loop-part.later c.stands_now-later.result lt c.part-item.is pushed c.stands_now-later.ensures
    c.loop-part.invariant
