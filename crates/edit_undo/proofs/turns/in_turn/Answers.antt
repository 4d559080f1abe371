use Rattle.std.proofs.Common.{◌≡◌, ◌-◌, ◌∷◌, List, length, take, drop}
use Rattle.bundle_edits.specs.declared.edit.Edit.{Edit}
use Rattle.edit_rules.proofs.Calls.{cut_first}
use Rattle.edit_undo.proofs.InTurn.{turn_goes}
use Rattle.edit_undo.proofs.turns.in_turn.Goals as goal

pub loop-rest-preserved : goal.loop-rest-preserved
loop-rest-preserved c =
    let rest : List Edit = c.loop-rest.rest.now in
    let after : List Edit = take (length rest - 1) (drop 1 rest) in
    let split : rest ≡ c.first-item.result ∷ after = cut_first rest c.first-item.result c.in-len1-up.len_at_least c.first-item.is in
    turn_goes c.args.config.now c.args.bundle c.loop-rest.next c.in_ok-next.next c.args.edits.now c.loop-rest.made c.in_ok-made.made rest c.first-item.result after split
    c.loop-rest.invariant c.in_ok-next.ensures.next c.in_ok-next.ensures.fits c.in_ok-made.ensures
