use Rattle.std.proofs.Common.{◌≡◌, Err, None, ap}
use Rattle.std.specs.List.{flat_map}
use Rattle.std.proofs.lemmas.List.Concat.{flat_map-cons}
use Rattle.eql_tuples.specs.declared.tuple.Tuple.{Tuple}
use Rattle.eql_tuples.specs.declared.faults.MatchFault.TheVariants.{TooManyTuples}
use Rattle.eql_tuples.specs.Tuples.{pairs_with}
use Rattle.eql_model.specs.Inner.Joins.{goes_with, makes}
use Rattle.eql_tuples.proofs.Gathers.{gather_step, gather_over}
use Rattle.eql_model.proofs.joins.gather_all.Goals as goal

abbrev no_tuple : Tuple
no_tuple = record { first = 0; last = 0; mark = None }

pub returns-in-Err-clause-over : goal.returns-in-Err-clause-over
returns-in-Err-clause-over c = λ told.
    let fault : c.in-Err.fault ≡ TooManyTuples = cc in
    gather_over (flat_map (pairs_with (goes_with c.args.join.now) (makes c.args.join.now) c.args.rights.now))
    (pairs_with (goes_with c.args.join.now) (makes c.args.join.now) c.args.rights.now)
    (flat_map-cons (pairs_with (goes_with c.args.join.now) (makes c.args.join.now) c.args.rights.now))
    c.args.lefts.now c.loop-left.left-index no_tuple c.loop-left.gathered _ c.loop-left.invariant.0 c.loop-left-test.true
    (c.in-Err.ensures.over (ap (λ e. Err e) fault))

pub loop-left-preserved : goal.loop-left-preserved
loop-left-preserved c = (
  gather_step (flat_map (pairs_with (goes_with c.args.join.now) (makes c.args.join.now) c.args.rights.now))
      (pairs_with (goes_with c.args.join.now) (makes c.args.join.now) c.args.rights.now)
      (flat_map-cons (pairs_with (goes_with c.args.join.now) (makes c.args.join.now) c.args.rights.now))
      c.args.lefts.now c.loop-left.left-index no_tuple c.loop-left.gathered _ _ c.loop-left.invariant.0 c.loop-left-test.true
      c.in-Ok.ensures.ok,
  c.in-Ok.ensures.fits,
)
