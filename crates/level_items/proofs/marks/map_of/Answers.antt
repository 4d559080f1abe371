use Rattle.std.proofs.Common.{rules, ◌≡◌, ℕ, List, arith, ap, nat_eq, ◌∙◌, ◌||◌}
use Rattle.std.proofs.lemmas.List.{take_all}
use Rattle.std.specs.Arc.{arc_value}
use Rattle.level_items.specs.declared.items.Item.{Item}
use Rattle.level_items.specs.Inner.Marked.{is_id_of, is_marked}
use Rattle.level_items.proofs.Rules.{marked_next}
use Rattle.level_items.proofs.marks.map_of.Goals as goal

pub loop-place-preserved : goal.loop-place-preserved
loop-place-preserved c =
    let item = c.index-items-place.result in
    let more : (q : ℕ) → is_marked c.insert.new.self q ≡ (nat_eq q item.id.0 || is_marked c.loop-place.map q) = search rules in
    λ q. more q
    ∙ marked_next q c.args.items.now c.loop-place.place item (is_marked c.loop-place.map q)
    (omega arith) c.index-items-place.is (c.loop-place.invariant q)

pub returns : goal.returns
returns c =
    let same : (q : ℕ) → is_marked (arc_value c.in_ok-new.field-0) q ≡ is_marked c.loop-place.map q = search rules in
    λ q. same q ∙ c.loop-place.invariant q
    ∙ ap (λ (xs : List Item). is_id_of xs q) (take_all c.loop-place.place c.args.items.now (omega arith))
