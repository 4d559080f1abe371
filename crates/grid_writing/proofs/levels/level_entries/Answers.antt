use Rattle.std.proofs.Common.{◌≤◌, ◌∙◌, sym, subst}
use Rattle.grid_writing.specs.Levels.{reach_of}
use Rattle.grid_writing.specs.Inner.Within.{AreWithin}
use Rattle.grid_writing.proofs.Fitting.{segments_within}
use Rattle.grid_writing.proofs.levels.level_entries.Goals as goal

pub filled-requires-clause-within : goal.filled-requires-clause-within
filled-requires-clause-within c =
    let list = c.args.list.now in
    let low = subst (λ k. reach_of k list.items ≤ c.args.end) c.in-Segment.is c.requires.reach in
    let within : AreWithin c.args.end 0 list.items = segments_within c.args.end list c.len-count.ensures.rule (c.requires.kind ∙ c.in-Segment.is) low in
    subst (λ items. AreWithin c.args.end 0 items) (sym c.as_slice.ensures) within
