use Rattle.std.proofs.Common.{◌≡◌, ◌+◌, length}
use Rattle.bundle_state.specs.Built.{FitsConfig}
use Rattle.edit_rules.specs.Inner.Turns.{own_in_turn}
use Rattle.edit_rules.proofs.list_change.change_in_turn.Given as goal

-- the edits that are left make of the bundle so far what all make of the first one
abbrev pub invariant-loop-rest : goal.invariant-loop-rest
invariant-loop-rest l = record {
  turn : own_in_turn l.config l.others l.place l.next l.rest ≡ own_in_turn l.config l.others 1 l.fn.bundle l.edits;
  fits : FitsConfig l.config l.next;
  placed : l.place + length l.rest ≡ 1 + length l.edits;
}

abbrev pub decreases-loop-rest : goal.decreases-loop-rest
decreases-loop-rest l = length l.rest
