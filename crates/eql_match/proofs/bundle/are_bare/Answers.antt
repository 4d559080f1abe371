use Rattle.std.proofs.Common.{sym, ◌∙◌, arith}
use Rattle.eql_match.proofs.Bare.{bare_more, all_bare, one_marked}
use Rattle.eql_match.proofs.Near.{no_tuple}
use Rattle.eql_match.proofs.bundle.are_bare.Goals as goal

pub loop-tuple-preserved : goal.loop-tuple-preserved
loop-tuple-preserved c =
    bare_more c.args.tuples.now c.loop-tuple.tuple-index no_tuple c.loop-tuple.invariant c.loop-tuple-test.true
    (sym c.is_some.ensures ∙ c.if-is_some.false)

pub returns-then-is_some : goal.returns-then-is_some
returns-then-is_some c =
    one_marked c.args.tuples.now c.loop-tuple.tuple-index no_tuple c.loop-tuple.invariant c.loop-tuple-test.true
    (sym c.is_some.ensures ∙ c.if-is_some.true)

pub returns : goal.returns
returns c = all_bare c.args.tuples.now c.loop-tuple.tuple-index c.loop-tuple.invariant (omega arith)
