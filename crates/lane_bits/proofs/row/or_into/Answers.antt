use Rattle.std.proofs.Common.{◌≡◌, ◌||◌, Bool, List, length, ap, ◌∙◌}
use Rattle.std.proofs.lemmas.Simd.{length-zip2}
use Rattle.std.specs.Int.Bits.{bit_or}
use lib.Lanes.{zip2}
use Rattle.lane_bits.specs.Inner.Words.{Hold}
use Rattle.lane_bits.proofs.Rows.{seen_held, or_held, written_held, written_is}
use Rattle.lane_bits.proofs.row.or_into.Goals as goal

abbrev joined : (c : goal.After-into-1) → List Bool
joined c = zip2 (λ a b. a || b) c.args.into.now c.args.other.now

held : (c : goal.After-into-1) → Hold c.or_words.new.into (joined c)
held c =
    let left = seen_held c.into.inside.words.items c.into.inside.len c.args.into.now c.into.invariant c.into.view_is in
    let right = seen_held c.other.inside.words.items c.other.inside.len c.args.other.now c.other.invariant c.other.view_is in
    let words : c.or_words.new.into ≡ zip2 bit_or c.into.inside.words.items c.other.inside.words.items =
    c.or_words.ensures ∙ ap (λ ws. zip2 bit_or ws c.as_slice.result.now) c.as_mut_slice.ensures.value
    ∙ ap (λ vs. zip2 bit_or c.into.inside.words.items vs) c.as_slice.ensures in
    rw words (or_held c.into.inside.words.items c.other.inside.words.items c.args.into.now c.args.other.now left.0 right.0 c.requires)

long : (c : goal.After-into-1) → length (joined c) ≡ c.into.inside.len
long c =
    length-zip2 (λ a b. a || b) c.args.into.now c.args.other.now c.requires
    ∙ (seen_held c.into.inside.words.items c.into.inside.len c.args.into.now c.into.invariant c.into.view_is).1

pub invariant_of-into : goal.invariant_of-into
invariant_of-into c =
    written_held c.into.inside.len (length c.into.inside.words.items) c.or_words.new.into c.into.inside.words.items (joined c)
    (c.or_words.auto.into ∙ ap length c.as_mut_slice.ensures.value) (held c) (long c)

pub returns : goal.returns
returns c =
    written_is c.into.inside.len (length c.into.inside.words.items) c.or_words.new.into c.into.inside.words.items (joined c)
    (c.or_words.auto.into ∙ ap length c.as_mut_slice.ensures.value) (held c) (long c)
