use Rattle.std.proofs.Common.{sym, subst}
use Rattle.bundle_state.specs.Bundle.{BundleParts}
use Rattle.std.specs.Prelude.{IsOk}
use Rattle.edit_undo.specs.Inner.Turns.{own_turns}
use Rattle.edit_undo.proofs.InTurn.{several_pass, several_as}
use Rattle.edit_undo.proofs.turns.of_several.Goals as goal

pub in_turn-requires-clause-inner : goal.in_turn-requires-clause-inner
in_turn-requires-clause-inner c =
    (several_pass c.args.config.now c.args.bundle.now c.args.edits.now c.requires.together c.requires.several c.requires.before).0

pub in_turn-requires-clause-passes : goal.in_turn-requires-clause-passes
in_turn-requires-clause-passes c =
    subst (λ (b : BundleParts). IsOk (own_turns c.args.config.now b c.args.edits.now)) (sym c.in_ok-copy.ensures)
    (several_pass c.args.config.now c.args.bundle.now c.args.edits.now c.requires.together c.requires.several c.requires.before).1

pub returns-clause-list : goal.returns-clause-list
returns-clause-list c =
    several_as c.args.config.now c.args.bundle.now c.in_ok-copy.copy c.args.edits.now c.in_turn.result c.in_ok-copy.ensures c.item_count-rules.ensures.rules c.requires.fits
    c.requires.before c.requires.together c.requires.several c.in_turn.ensures
