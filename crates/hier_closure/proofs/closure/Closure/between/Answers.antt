use Rattle.std.proofs.Common.{List, sym, subst, ◌∙◌}
use Rattle.hier_closure.specs.Inner.Stands.{AreStandsIn}
use Rattle.hier_closure.specs.declared.stands.LevelStands.{LevelStands}
use Rattle.hier_closure.proofs.closure.Closure.between.Goals as goal

pub placed-requires-clause-stands : goal.placed-requires-clause-stands
placed-requires-clause-stands c =
    subst (λ (all : List LevelStands). AreStandsIn c.args.bundle.now all) (sym (c.as_slice.ensures ∙ c.as_ref.ensures))
    c.in_ok-stands.ensures
