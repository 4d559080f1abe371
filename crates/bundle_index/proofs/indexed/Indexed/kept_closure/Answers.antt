use Rattle.bundle_index.proofs.Asked.{kept_rows, within_config}
use Rattle.bundle_index.proofs.indexed.Indexed.kept_closure.Goals as goal

pub kept_at-requires-clause-upper : goal.kept_at-requires-clause-upper
kept_at-requires-clause-upper c =
    within_config c.args.config.now c.args.self.now.bundle c.args.upper c.requires.fits c.requires.upper

pub kept_at-requires-clause-lower : goal.kept_at-requires-clause-lower
kept_at-requires-clause-lower c =
    within_config c.args.config.now c.args.self.now.bundle c.args.lower c.requires.fits c.requires.lower

pub returns : goal.returns
returns c =
    kept_rows c.args.config.now _ c.args.self.now c.self.inside.linked c.as_slice.result.now
    c.args.upper c.args.lower c.kept_at.result c.self.view_is c.requires.fits c.as_slice.ensures c.self.invariant.linked c.kept_at.ensures
