use Rattle.std.proofs.Common.{◌≡◌, ◌-◌, None, get_or}
use Rattle.std.specs.List.{range_with_len}
use Rattle.requery.specs.Inner.Ways.{positions_of, union, union_over}
use Rattle.requery.proofs.stretches.kin_of.Given as goal

-- the stretch so far with those of the items that are left is the whole one
abbrev pub invariant-loop-item : goal.invariant-loop-item
invariant-loop-item l =
    union l.found (union_over (λ i. get_or l.stretches i None) (range_with_len l.item (l.item-end - l.item)))
    ≡ union_over (λ i. get_or l.stretches i None) (positions_of l.fn.span)
