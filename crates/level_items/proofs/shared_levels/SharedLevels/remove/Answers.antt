use Rattle.std.proofs.Common.{◌<◌, length}
use Rattle.level_items.specs.Changed.{without_item}
use Rattle.level_items.proofs.Written.{written_level}
use Rattle.level_items.proofs.shared_levels.SharedLevels.remove.Goals as goal

pub returns-clause-removed : goal.returns-clause-removed
returns-clause-removed c =
    let levels = c.self.inside.lists.items in
    let within : c.args.level < length levels = rw (← c.self.view_is) at c.requires.level in
    written_level (without_item c.args.position) c.args.level levels c.args.self.now c.index_mut.result.now c.remove.new.self c.remove.result c.self.view_is within
    c.index_mut.ensures.value c.remove.ensures.removed
