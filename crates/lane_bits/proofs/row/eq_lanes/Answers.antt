use Rattle.std.proofs.Common.{◌≡◌, ◌==◌, length, map, ap, ◌∙◌}
use Rattle.std.proofs.lemmas.List.{length-map}
use Rattle.lane_bits.proofs.Rows.{seen_held, written_held, written_is}
use Rattle.lane_bits.proofs.row.eq_lanes.Goals as goal

long : (c : goal.After-out-1) → length (map (λ x. x == c.args.label) c.args.column.now) ≡ c.out.inside.len
long c =
    length-map c.args.column.now (λ x. x == c.args.label) ∙ c.requires
    ∙ (seen_held c.out.inside.words.items c.out.inside.len c.args.out.now c.out.invariant c.out.view_is).1

pub invariant_of-out : goal.invariant_of-out
invariant_of-out c =
    written_held c.out.inside.len (length c.out.inside.words.items) c.eq_words.new.words c.out.inside.words.items _
    (c.eq_words.auto.words ∙ ap length c.as_mut_slice.ensures.value) c.eq_words.ensures (long c)

pub returns : goal.returns
returns c =
    written_is c.out.inside.len (length c.out.inside.words.items) c.eq_words.new.words c.out.inside.words.items _
    (c.eq_words.auto.words ∙ ap length c.as_mut_slice.ensures.value) c.eq_words.ensures (long c)
