use Rattle.std.proofs.Common.{sym, ◌∙◌}
use Rattle.hier_closure.proofs.Passes.{on_level, elsewhere, nowhere}
use Rattle.hier_closure.proofs.linked.position_on.Goals as goal

pub returns-then-on-level-clause-there : goal.returns-then-on-level-clause-there
returns-then-on-level-clause-there c =
    on_level c.args.bundle.now.levels c.args.level c.args.id.0 c.in-Some.on c.in-Some.position c.requires.there
    (sym c.in-Some.is ∙ c.place_from.ensures) c.if-on-level.true

pub returns-else-on-level-clause-none : goal.returns-else-on-level-clause-none
returns-else-on-level-clause-none c =
    elsewhere c.args.bundle.now.levels c.args.level c.args.id.0 c.in-Some.on c.in-Some.position
    (sym c.in-Some.is ∙ c.place_from.ensures) c.if-on-level.false

pub returns-in-None-clause-none : goal.returns-in-None-clause-none
returns-in-None-clause-none c =
    nowhere c.args.bundle.now.levels c.args.level c.args.id.0 (sym c.place_from.ensures ∙ c.in-None.is)
