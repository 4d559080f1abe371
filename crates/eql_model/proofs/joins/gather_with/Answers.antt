use Rattle.std.proofs.Common.{◌≡◌, [], ◌∷◌, Err, None, ap}
use Rattle.eql_tuples.specs.declared.tuple.Tuple.{Tuple}
use Rattle.eql_tuples.specs.declared.faults.MatchFault.TheVariants.{TooManyTuples}
use Rattle.eql_tuples.specs.Tuples.{pairs_with}
use Rattle.eql_model.specs.Inner.Joins.{goes_with, makes}
use Rattle.eql_tuples.proofs.Gathers.{gather_over, pairs_in_turn}
use Rattle.eql_model.proofs.joins.gather_with.Goals as goal

abbrev no_tuple : Tuple
no_tuple = record { first = 0; last = 0; mark = None }

pub returns-in-Err-clause-over : goal.returns-in-Err-clause-over
returns-in-Err-clause-over c = λ told.
    let fault : c.in-Err.fault ≡ TooManyTuples = cc in
    gather_over (λ rights. pairs_with (goes_with c.args.join.now) (makes c.args.join.now) rights c.args.left)
    (λ right. pairs_with (goes_with c.args.join.now) (makes c.args.join.now) (right ∷ []) c.args.left)
    (pairs_in_turn (goes_with c.args.join.now) (makes c.args.join.now) c.args.left)
    c.args.rights.now c.loop-right.right-index no_tuple c.loop-right.gathered _ c.loop-right.invariant.0 c.loop-right-test.true
    (c.in-Err.ensures.over (ap (λ e. Err e) fault))
