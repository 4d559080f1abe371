use Rattle.std.proofs.Common.{sym, ◌∙◌}
use Rattle.hier_closure.proofs.Places.{at_place}
use Rattle.hier_closure.proofs.stands.stand_of.Goals as goal

pub returns : goal.returns
returns c =
    at_place c.args.bundle.now c.args.id.0 c.in-Some.level c.in-Some.position c.in_ok-on.on c.in_ok-at.at
    c.requires.there (sym c.in-Some.is ∙ c.place_from.ensures) c.in_ok-on.ensures c.in_ok-at.ensures
