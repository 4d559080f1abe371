use Rattle.edit_undo.proofs.InTurn.{one_times, one_listed}
use Rattle.edit_undo.proofs.turns.of_one.Goals as goal

pub with_inverse-requires-clause-times : goal.with_inverse-requires-clause-times
with_inverse-requires-clause-times c = one_times c.args.config.now c.args.bundle.now c.args.edit.now c.requires.fits c.requires.before

pub returns-clause-list : goal.returns-clause-list
returns-clause-list c =
    one_listed c.args.config.now c.args.bundle.now c.args.edit.now c.new.result c.with_inverse.result c.item_count-rules.ensures.rules c.requires.fits c.requires.before
    c.new.ensures c.with_inverse.ensures
