use Rattle.std.proofs.Common.{◌<◌, length}
use Rattle.level_items.specs.Changed.{with_item}
use Rattle.level_items.proofs.Written.{written_level}
use Rattle.level_items.proofs.shared_levels.SharedLevels.insert.Goals as goal

pub returns-clause-inserted : goal.returns-clause-inserted
returns-clause-inserted c =
    let levels = c.self.inside.lists.items in
    let within : c.args.level < length levels = rw (← c.self.view_is) at c.requires.level in
    written_level (with_item c.args.position c.args.item) c.args.level levels c.args.self.now c.index_mut.result.now c.insert.new.self c.insert.result c.self.view_is within
    c.index_mut.ensures.value c.insert.ensures.inserted
