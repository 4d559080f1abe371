use Rattle.std.proofs.Common.{◌≡◌, ◌∙◌, sym, Some, None}
use Rattle.bundle_state.proofs.IdLevels.{IsPlaced, placed, place_none}
use Rattle.bundle_state.proofs.bundle.Bundle.place.Goals as goal

pub returns-in-Some-find : goal.returns-in-Some-find
returns-in-Some-find c =
    let levels = c.args.self.now.levels in
    let is : IsPlaced c.args.id.0 levels c.in-Some.level c.level.result.now =
    placed c.args.id.0 levels c.in-Some.level c.level.result.now (sym c.in-Some.ensures.level) c.level.ensures.level in
    let same : Some c.in-Some-find.position ≡ Some is.at = c.in-Some-find.ensures ∙ is.position_is in
    cc is.place_is

pub returns-in-None-find : goal.returns-in-None-find
returns-in-None-find c =
    let levels = c.args.self.now.levels in
    let is : IsPlaced c.args.id.0 levels c.in-Some.level c.level.result.now =
    placed c.args.id.0 levels c.in-Some.level c.level.result.now (sym c.in-Some.ensures.level) c.level.ensures.level in
    let never : None ≡ Some is.at = c.in-None-find.ensures ∙ is.position_is in
    cc

pub returns-in-None : goal.returns-in-None
returns-in-None c = sym (place_none c.args.id.0 0 c.args.self.now.levels (sym c.in-None.ensures.level))
