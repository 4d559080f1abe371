use Rattle.std.proofs.Common.{◌∙◌, sym}
use Rattle.edit_rules.proofs.KeyPlaces.{taken_at, free_at}
use Rattle.edit_rules.proofs.database.Database.place_of.Goals as goal

pub returns-then-has_key_at : goal.returns-then-has_key_at
returns-then-has_key_at c =
    let at = taken_at c.args.key.now c.args.self.now.bundles c.bundles_before-place.result c.len-count.ensures.rules.rising
    c.bundles_before-place.ensures.splits.0 (sym c.has_key_at.ensures ∙ c.if-has_key_at.true) in
    record { place = at; within = at.within }

pub returns : goal.returns
returns c =
    let free = free_at c.args.key.now c.args.self.now.bundles c.bundles_before-place.result c.len-count.ensures.rules.rising c.bundles_before-place.ensures.within
    c.bundles_before-place.ensures.splits.0 c.bundles_before-place.ensures.splits.1 (sym c.has_key_at.ensures ∙ c.if-has_key_at.false) in
    record { place = free; within = free.within }
