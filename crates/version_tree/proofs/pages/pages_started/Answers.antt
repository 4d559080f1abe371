use Rattle.std.proofs.Common.{rules}
use Rattle.std.proofs.lemmas.List.Sorted.{IsPartitionPoint-from_clause}
use Rattle.version_tree.specs.Inner.Pages.{starts_by}
use Rattle.version_tree.proofs.Leaves.{pages_halved}
use Rattle.version_tree.proofs.pages.pages_started.Goals as goal

pub returns-clause-splits : goal.returns-clause-splits
returns-clause-splits c =
    IsPartitionPoint-from_clause (starts_by c.args.key.now) _ _ c.partition_point.ensures.partitioned
    (pages_halved c.args.key.now c.args.pages.now c.requires.sizes c.requires.rising)
    (λ a r q k. search rules)
