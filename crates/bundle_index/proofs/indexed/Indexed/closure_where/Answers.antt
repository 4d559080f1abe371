use Rattle.std.proofs.Common.{◌∙◌, sym, ap, length}
use Rattle.hier_closure.specs.Dominance.{ids_at}
use Rattle.bundle_index.proofs.Asked.{ids_long}
use Rattle.bundle_index.proofs.indexed.Indexed.closure_where.Goals as goal

pub kept_where-requires-clause-asked : goal.kept_where-requires-clause-asked
kept_where-requires-clause-asked c =
    c.requires.asked ∙ sym (ids_long c.args.self.now.bundle.levels c.args.upper)
    ∙ ap (λ b. length (ids_at b.bundle.levels c.args.upper)) (sym c.self.view_is)
