use Rattle.std.proofs.Common.{Some, ap, sym, ◌∙◌}
use Rattle.bundle_index.proofs.Asked.{seen_columns, times_are}
use Rattle.bundle_index.proofs.indexed.Indexed.starts.Goals as goal

pub returns : goal.returns
returns c =
    c.as_slice.ensures
    ∙ (times_are c.args.self.now c.self.inside.columns c.args.level c.as_ref.result.now
    (seen_columns _ c.args.self.now c.self.inside.columns c.self.view_is c.self.invariant.columns)
    c.requires.level c.requires.timed (c.get.ensures ∙ ap Some (sym c.as_ref.ensures))).0
