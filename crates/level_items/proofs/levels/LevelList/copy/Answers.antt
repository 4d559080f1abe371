use Rattle.std.proofs.Common.{◌≡◌, ◌∙◌, ap, subst, IfOk}
use Rattle.level_items.specs.Levels.{Level, KeepsLevelRule, widened}
use Rattle.level_items.proofs.Wider.{widened_same}
use Rattle.level_items.proofs.levels.LevelList.copy.Goals as goal

-- on a level of as many attributes as it has, it is the list itself
pub returns : goal.returns
returns c =
    let list = c.args.self.now in
    let rule = subst KeepsLevelRule c.self.view_is c.self.invariant.rule in
    let same = ap (λ (l : Level). widened l.attributes list) c.self.view_is ∙ widened_same list rule in
    subst (λ l. IfOk c.widened.result (λ made. made ≡ l)) same c.widened.ensures
