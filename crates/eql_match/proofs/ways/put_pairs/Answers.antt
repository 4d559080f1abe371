use Rattle.std.proofs.Common.{◌≡◌, Err, ap}
use Rattle.std.specs.List.{flat_map}
use Rattle.std.proofs.lemmas.List.Concat.{flat_map-cons}
use Rattle.eql_tuples.specs.declared.faults.MatchFault.TheVariants.{TooManyTuples}
use Rattle.eql_tuples.specs.Tuples.{pairs_with}
use Rattle.eql_tuples.proofs.Gathers.{gather_step, gather_over}
use Rattle.eql_match.specs.Inner.Ways.{joins, makes}
use Rattle.eql_match.proofs.Near.{no_tuple}
use Rattle.eql_match.proofs.ways.put_pairs.Goals as goal

pub returns-in-Err-clause-over : goal.returns-in-Err-clause-over
returns-in-Err-clause-over c = λ told.
    let fault : c.in-Err.fault ≡ TooManyTuples = cc in
    gather_over (flat_map (pairs_with (joins c.args.way.now) (makes c.args.way.now) c.args.others.now))
    (pairs_with (joins c.args.way.now) (makes c.args.way.now) c.args.others.now)
    (flat_map-cons (pairs_with (joins c.args.way.now) (makes c.args.way.now) c.args.others.now))
    c.args.ones.now c.loop-one.one-index no_tuple c.loop-one.gathered _ c.loop-one.invariant.0 c.loop-one-test.true
    (c.in-Err.ensures.over (ap (λ e. Err e) fault))

pub loop-one-preserved : goal.loop-one-preserved
loop-one-preserved c = (
  gather_step (flat_map (pairs_with (joins c.args.way.now) (makes c.args.way.now) c.args.others.now))
      (pairs_with (joins c.args.way.now) (makes c.args.way.now) c.args.others.now)
      (flat_map-cons (pairs_with (joins c.args.way.now) (makes c.args.way.now) c.args.others.now))
      c.args.ones.now c.loop-one.one-index no_tuple c.loop-one.gathered _ _ c.loop-one.invariant.0 c.loop-one-test.true
      c.in-Ok.ensures.ok,
  c.in-Ok.ensures.fits,
)
