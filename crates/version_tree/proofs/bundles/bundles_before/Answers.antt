use Rattle.std.proofs.Common.{rules}
use Rattle.std.proofs.lemmas.List.Sorted.{IsPartitionPoint-from_clause}
use Rattle.edit_rules.specs.Database.{is_before}
use Rattle.version_tree.proofs.Gaps.{halved}
use Rattle.version_tree.proofs.bundles.bundles_before.Goals as goal

pub returns-clause-splits : goal.returns-clause-splits
returns-clause-splits c =
    IsPartitionPoint-from_clause (λ x. is_before x.bundle.key c.args.key.now) _ _ c.partition_point.ensures.partitioned
    (halved c.args.key.now c.args.bundles.now c.requires)
    (λ a r q k. search rules)
