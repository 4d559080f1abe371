use Rattle.std.proofs.Common.{◌<◌, length}
use Rattle.level_items.specs.Levels.{retimed}
use Rattle.level_items.specs.Changed.{with_changed}
use Rattle.level_items.proofs.Written.{written_level}
use Rattle.level_items.proofs.shared_levels.SharedLevels.retime.Goals as goal

pub returns-clause-retimed : goal.returns-clause-retimed
returns-clause-retimed c =
    let levels = c.self.inside.lists.items in
    let within : c.args.level < length levels = rw (← c.self.view_is) at c.requires.level in
    written_level (with_changed (retimed c.args.time) c.args.position) c.args.level levels c.args.self.now c.index_mut.result.now c.retime.new.self c.retime.result c.self.view_is within
    c.index_mut.ensures.value c.retime.ensures.retimed
