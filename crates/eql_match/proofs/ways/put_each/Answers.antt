use Rattle.std.proofs.Common.{◌≡◌, [], ◌∷◌, Err, ap}
use Rattle.eql_tuples.specs.declared.faults.MatchFault.TheVariants.{TooManyTuples}
use Rattle.eql_tuples.specs.Tuples.{pairs_with}
use Rattle.eql_tuples.proofs.Gathers.{gather_over, pairs_in_turn}
use Rattle.eql_match.specs.Inner.Ways.{joins, makes}
use Rattle.eql_match.proofs.Near.{no_tuple}
use Rattle.eql_match.proofs.ways.put_each.Goals as goal

pub returns-in-Err-clause-over : goal.returns-in-Err-clause-over
returns-in-Err-clause-over c = λ told.
    let fault : c.in-Err.fault ≡ TooManyTuples = cc in
    gather_over (λ others. pairs_with (joins c.args.way.now) (makes c.args.way.now) others c.args.one)
    (λ other. pairs_with (joins c.args.way.now) (makes c.args.way.now) (other ∷ []) c.args.one)
    (pairs_in_turn (joins c.args.way.now) (makes c.args.way.now) c.args.one)
    c.args.others.now c.loop-other.other-index no_tuple c.loop-other.gathered _ c.loop-other.invariant.0 c.loop-other-test.true
    (c.in-Err.ensures.over (ap (λ e. Err e) fault))
