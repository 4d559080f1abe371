use Rattle.version_tree.proofs.Versions.{kept_as, counts_without}
use Rattle.version_tree.proofs.version.Version.counts_without.Goals as goal

pub overflow_sub-result : goal.overflow_sub-result
overflow_sub-result c =
    (counts_without c.args.self.now c.args.key.now c.self.inside.counts c.counts_at-old.result
    (kept_as c.args.self.now _ c.self.inside.counts c.self.view_is c.self.invariant) c.counts_at-old.ensures.rising c.counts_at-old.ensures.counts).low_bundles

pub overflow_sub-result-2 : goal.overflow_sub-result-2
overflow_sub-result-2 c =
    (counts_without c.args.self.now c.args.key.now c.self.inside.counts c.counts_at-old.result
    (kept_as c.args.self.now _ c.self.inside.counts c.self.view_is c.self.invariant) c.counts_at-old.ensures.rising c.counts_at-old.ensures.counts).low_items

pub returns-clause-counts : goal.returns-clause-counts
returns-clause-counts c =
    (counts_without c.args.self.now c.args.key.now c.self.inside.counts c.counts_at-old.result
    (kept_as c.args.self.now _ c.self.inside.counts c.self.view_is c.self.invariant) c.counts_at-old.ensures.rising c.counts_at-old.ensures.counts).made
