use Rattle.std.proofs.Common.{◌≡◌, ◌-◌, ◌∷◌, List, length, take, drop, arith}
use Rattle.bundle_edits.specs.declared.edit.Edit.{Edit}
use Rattle.edit_rules.specs.Inner.Turns.{own_in_turn}
use Rattle.edit_rules.proofs.Calls.{cut_first, turn_on, length_rest}
use Rattle.edit_rules.proofs.list_change.change_in_turn.Goals as goal

pub loop-rest-preserved : goal.loop-rest-preserved
loop-rest-preserved c =
    let rest : List Edit = c.loop-rest.rest.now in
    let after : List Edit = take (length rest - 1) (drop 1 rest) in
    let split : rest ≡ c.first-item.result ∷ after = cut_first rest c.first-item.result c.in-len1-up.len_at_least c.first-item.is in
    let shorter = length_rest rest after c.first-item.result split in
    let placed = c.loop-rest.invariant.placed in
    record {
      turn = turn_on c.args.config.now c.args.others c.loop-rest.place c.loop-rest.next c.in_ok-next.next c.first-item.result rest after
          (own_in_turn c.args.config.now c.args.others 1 c.args.bundle c.args.edits.now) split c.in_ok-next.ensures.next c.loop-rest.invariant.turn;
      fits = c.in_ok-next.ensures.fits;
      placed = omega (arith, shorter, placed);
    }
