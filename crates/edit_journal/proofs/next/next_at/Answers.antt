use Rattle.std.proofs.Common.{◌≡◌, ◌-◌, inl, inr, ⊎_elim, get_or, length, drop, arith, length-take, length-drop}
use Rattle.edit_journal.proofs.Walk.{walk-unwhole}
use Rattle.edit_journal.proofs.next.next_at.Goals as goal

pub returns-then-size-more : goal.returns-then-size-more
returns-then-size-more c = λ steps at.
    let rest = c.args.rest.now in
    let is_open : get_or rest 0 0 ≡ 1 = omega arith in
    let behind = length-take (length rest - 5) (drop 5 rest) in
    let bad = ⊎_elim (λ none. inl none) (λ past. inr (omega (arith, past.1, behind, length-drop 5 rest))) c.if-size-more.either in
    walk-unwhole rest steps at c.from_be_bytes-size.result c.in-1.len_at_least is_open c.from_be_bytes-size.ensures bad
