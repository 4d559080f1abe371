use Rattle.std.proofs.Common.{length, ap, sym, ◌∙◌}
use Rattle.bundle_index.specs.Index.{IndexParts}
use Rattle.bundle_index.proofs.Asked.{ids_stay}
use Rattle.bundle_index.proofs.indexed.Indexed.changed_beside.Goals as goal

pub relinked_levels-requires-clause-same : goal.relinked_levels-requires-clause-same
relinked_levels-requires-clause-same c =
    ids_stay _ c.args.self.now c.args.bundle.now.levels c.args.marked.now c.self.view_is c.requires

pub stands_again-requires-clause-same : goal.stands_again-requires-clause-same
stands_again-requires-clause-same c =
    ids_stay _ c.args.self.now c.args.bundle.now.levels c.args.marked.now c.self.view_is c.requires
