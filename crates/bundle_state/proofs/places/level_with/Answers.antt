use Rattle.std.proofs.Common.{◌∙◌, ◌+◌, sym, ap, cond, drop, Bool, Some}
use Rattle.level_items.specs.Levels.{Level}
use Rattle.bundle_state.specs.Bundle.{level_from, position_on}
use Rattle.bundle_state.proofs.IdLevels.{asked}
use Rattle.bundle_state.proofs.places.level_with.Goals as goal

pub returns-then-is_some : goal.returns-then-is_some
returns-then-is_some c =
    let id = c.args.id.0 in
    let number = c.loop-level.level in
    let levels = c.args.levels.now in
    let found = c.find.ensures ∙ ap (λ (l : Level). position_on id l) c.as_ref.ensures in
    let rest = level_from (number + 1) id (drop (number + 1) levels) in
    let there = sym c.is_some.ensures ∙ c.if-is_some.true in
    sym (ap (λ (b : Bool). cond b (Some number) rest) there)
    ∙ sym (asked id number levels c.index-levels-level.result c.find.result c.loop-level-test.true c.index-levels-level.is found)
    ∙ c.loop-level.invariant

pub loop-level-preserved : goal.loop-level-preserved
loop-level-preserved c =
    let id = c.args.id.0 in
    let number = c.loop-level.level in
    let levels = c.args.levels.now in
    let found = c.find.ensures ∙ ap (λ (l : Level). position_on id l) c.as_ref.ensures in
    let rest = level_from (number + 1) id (drop (number + 1) levels) in
    let there = sym c.is_some.ensures ∙ c.if-is_some.false in
    sym (ap (λ (b : Bool). cond b (Some number) rest) there)
    ∙ sym (asked id number levels c.index-levels-level.result c.find.result c.loop-level-test.true c.index-levels-level.is found)
    ∙ c.loop-level.invariant
