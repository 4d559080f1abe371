use Rattle.std.proofs.Common.{rules, ◌≡◌, ◌∙◌, ℕ, nat_eq, cond, None, Some}
use Rattle.std.specs.Arc.{arc_value}
use Rattle.bundle_state.specs.Bundle.{level_of_id}
use Rattle.bundle_state.specs.Inner.Placed.{level_in}
use Rattle.bundle_state.proofs.IdLevels.{own_levels, taken_back}
use Rattle.bundle_state.proofs.changes.put_item.Goals as goal

-- the level refused the item, whose id had no level before
pub returns-in-Err-clause-places : goal.returns-in-Err-clause-places
returns-in-Err-clause-places c =
    let id = c.args.item.id.0 in
    let end = arc_value (c.make_mut.follows.lender c.remove.new.self) in
    let out : (q : ℕ) → level_in end q ≡ cond (nat_eq q id) None (level_in c.insert-2.new.self q) = search rules in
    let in_ : (q : ℕ) → level_in c.insert-2.new.self q ≡ cond (nat_eq q id) (Some c.args.level) (level_in c.in_ok-own.own.now q) = search rules in
    let alike : (q : ℕ) → level_in c.in_ok-own.own.now q ≡ level_in (arc_value c.in-Some.map) q = own_levels (arc_value c.in-Some.map) c.in_ok-own.own.now c.in_ok-own.ensures.value in
    let placed : (q : ℕ) → level_in (arc_value c.in-Some.map) q ≡ level_of_id c.args.levels.now q = search rules in
    let same : (q : ℕ) → level_in c.in_ok-own.own.now q ≡ level_of_id c.args.levels.now q = λ q. alike q ∙ placed q in
    taken_back id c.args.level (λ q. level_in end q) (λ q. level_in c.insert-2.new.self q) (λ q. level_in c.in_ok-own.own.now q) (λ q. level_of_id c.args.levels.now q)
    out in_ same c.requires.free
