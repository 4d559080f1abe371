use Rattle.std.proofs.Common.{None, refl, ◌∷◌, []}
use Rattle.eql_tuples.specs.declared.tuple.Tuple.{Tuple}
use Rattle.eql_tuples.proofs.Gathers.{gather_step}
use Rattle.eql_tuples.proofs.kept.set_of.Goals as goal

abbrev no_tuple : Tuple
no_tuple = record { first = 0; last = 0; mark = None }

pub loop-tuple-preserved : goal.loop-tuple-preserved
loop-tuple-preserved c =
    gather_step (λ ts. ts) (λ t. t ∷ []) (λ t ts. refl) c.args.list.now c.loop-tuple.tuple-index no_tuple c.loop-tuple.set.keys _ _
    c.loop-tuple.invariant c.loop-tuple-test.true c.in_ok-insert.ensures.keys
