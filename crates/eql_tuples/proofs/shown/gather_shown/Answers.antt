use Rattle.std.proofs.Common.{◌≡◌, Err, None, ap}
use Rattle.std.specs.List.{flat_map}
use Rattle.std.proofs.lemmas.List.Concat.{flat_map-cons}
use Rattle.eql_tuples.specs.declared.tuple.Tuple.{Tuple}
use Rattle.eql_tuples.specs.declared.faults.MatchFault.TheVariants.{TooManyTuples}
use Rattle.eql_tuples.specs.Shown.{shown}
use Rattle.eql_tuples.proofs.Gathers.{gather_step, gather_over}
use Rattle.eql_tuples.proofs.shown.gather_shown.Goals as goal

abbrev no_tuple : Tuple
no_tuple = record { first = 0; last = 0; mark = None }

pub returns-in-Err-clause-over : goal.returns-in-Err-clause-over
returns-in-Err-clause-over c = λ told.
    let fault : c.in-Err.fault ≡ TooManyTuples = cc in
    gather_over (flat_map (shown c.args.marked)) (shown c.args.marked) (flat_map-cons (shown c.args.marked))
    c.args.tuples.now c.loop-tuple.tuple-index no_tuple c.loop-tuple.gathered _ c.loop-tuple.invariant.0 c.loop-tuple-test.true
    (c.in-Err.ensures.over (ap (λ e. Err e) fault))

pub loop-tuple-preserved : goal.loop-tuple-preserved
loop-tuple-preserved c = (
  gather_step (flat_map (shown c.args.marked)) (shown c.args.marked) (flat_map-cons (shown c.args.marked))
      c.args.tuples.now c.loop-tuple.tuple-index no_tuple c.loop-tuple.gathered _ _ c.loop-tuple.invariant.0 c.loop-tuple-test.true
      c.in-Ok.ensures.ok,
  c.in-Ok.ensures.fits,
)
