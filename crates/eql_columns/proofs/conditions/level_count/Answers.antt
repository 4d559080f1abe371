use Rattle.std.proofs.Common.{length, ap, ◌∙◌, arith}
use Rattle.bundle_state.specs.Bundle.{BundleParts}
use Rattle.level_items.specs.Levels.{items_at}
use Rattle.eql_columns.proofs.conditions.level_count.Goals as goal

pub returns : goal.returns
returns c =
    let same = ap length (c.items_at.ensures ∙ ap (λ (b : BundleParts). items_at b.levels c.args.level) c.bundle.ensures) in
    omega arith
