use Rattle.std.proofs.Common.{sym, subst}
use Rattle.std.specs.List.Sorted.{IsNonDecreasingBy}
use Rattle.eql_rows.proofs.InOrder.{start, end, starts_in_order, ends_in_order}
use Rattle.eql_rows.proofs.times.timed_items.Goals as goal

pub returns-clause-starts : goal.returns-clause-starts
returns-clause-starts c =
    subst (IsNonDecreasingBy start) (sym c.as_slice.ensures) (starts_in_order c.level.result.now c.level.ensures.rule)

pub returns-clause-ends : goal.returns-clause-ends
returns-clause-ends c =
    subst (IsNonDecreasingBy end) (sym c.as_slice.ensures) (ends_in_order c.level.result.now c.level.ensures.rule)
