use Rattle.std.proofs.Common.{◌<◌, length}
use Rattle.level_items.specs.Levels.{relabelled}
use Rattle.level_items.specs.Changed.{with_changed}
use Rattle.level_items.proofs.Written.{written_level}
use Rattle.level_items.proofs.shared_levels.SharedLevels.set_label.Goals as goal

pub returns-clause-labelled : goal.returns-clause-labelled
returns-clause-labelled c =
    let levels = c.self.inside.lists.items in
    let within : c.args.level < length levels = rw (← c.self.view_is) at c.requires.level in
    written_level (with_changed (relabelled c.args.attribute c.args.label) c.args.position) c.args.level levels c.args.self.now c.index_mut.result.now c.set_label.new.self c.set_label.result c.self.view_is within
    c.index_mut.ensures.value c.set_label.ensures.labelled
