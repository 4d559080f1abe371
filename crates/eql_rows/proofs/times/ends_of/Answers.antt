use Rattle.std.proofs.Common.{ap, ◌∙◌}
use Rattle.eql_rows.specs.Rows.{end_to_end}
use Rattle.eql_tuples.specs.Tuples.{from_to}
use Rattle.eql_rows.proofs.times.ends_of.Goals as goal

pub returns-clause-ends : goal.returns-clause-ends
returns-clause-ends c =
    c.ends_between-ends.ensures.ends
    ∙ ap (λ items. end_to_end (from_to items c.args.span.first c.args.span.last)) c.timed_items-items.ensures.items
