use Rattle.edit_rules.proofs.Calls.{many}
use Rattle.edit_rules.proofs.list_change.change_many.Goals as goal

pub returns : goal.returns
returns c =
    many c.args.config.now c.args.counts c.beside-others.result c.args.bundle.now c.in_ok-copy.copy c.args.edits.now c.change_in_turn.result c.kept.result
    c.in_ok-copy.ensures c.beside-others.ensures c.kept.ensures c.requires.inner c.change_in_turn.ensures
