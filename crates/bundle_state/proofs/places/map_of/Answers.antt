use Rattle.std.proofs.Common.{rules, ◌≡◌, ℕ, List, arith, nat_eq, ap, ◌∙◌}
use Rattle.std.specs.Arc.{arc_value}
use Rattle.std.specs.List.{list_any}
use Rattle.std.specs.Option.{option_or}
use Rattle.std.proofs.lemmas.List.{take_all}
use Rattle.level_items.specs.Levels.{Level, ids_of}
use Rattle.bundle_state.specs.Bundle.{level_of_id}
use Rattle.bundle_state.specs.Inner.Placed.{level_in}
use Rattle.bundle_state.proofs.IdLevels.{levels_step, level_if}
use Rattle.bundle_state.proofs.places.map_of.Goals as goal

pub loop-level-preserved : goal.loop-level-preserved
loop-level-preserved c = λ q.
    levels_step q (level_in c.loop-level.map q) (level_in c.put_all.new.map q) c.args.levels.now c.loop-level.level c.index-levels-level.result
    (omega arith) c.index-levels-level.is (c.loop-level.invariant q)
    (c.in_ok-put_all.ensures q ∙ ap (λ items. option_or (level_in c.loop-level.map q) (level_if (list_any (nat_eq q) (ids_of items)) c.loop-level.level)) (c.as_slice.ensures ∙ ap (λ (l : Level). l.items) c.as_ref.ensures))

pub returns : goal.returns
returns c =
    let same : (q : ℕ) → level_in (arc_value c.in_ok-new.field-0) q ≡ level_in c.loop-level.map q = search rules in
    λ q. same q ∙ c.loop-level.invariant q
    ∙ ap (λ (ls : List Level). level_of_id ls q) (take_all c.loop-level.level c.args.levels.now (omega arith))
