use Rattle.std.specs.List.{list_all}
use Rattle.eql_rows.specs.Inner.Flags.{flag_at}
use Rattle.eql_model.specs.Meaning.{single}
use Rattle.eql_model.proofs.Conditions.{singles_step}
use Rattle.eql_model.proofs.conjunction.singles_where.Goals as goal

pub loop-at-preserved : goal.loop-at-preserved
loop-at-preserved c =
    singles_step (single c.args.marked) (λ k. list_all (flag_at k) c.args.rows.now) c.loop-at.at c.loop-at.made _ c.loop-at.invariant
    c.in_ok-put_single.ensures
