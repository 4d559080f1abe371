use Rattle.std.proofs.Common.{arith}
use Rattle.textgrid.specs.Values.{values_of}
use Rattle.textgrid.proofs.Faults.{hands_on}
use Rattle.textgrid.proofs.Skips.{values_next, values_stop}
use Rattle.textgrid.proofs.scan.read_values.Goals as goal

pub returns-in_err-keep-clause-err : goal.returns-in_err-keep-clause-err
returns-in_err-keep-clause-err c =
    hands_on c.from_residual-in_err-keep.result (values_of c.args.text.now) c.in_err-keep.field-0.0 c.from_residual-in_err-keep.ensures.1
    (λ other. values_stop c.loop-at.values c.args.text.now c.in_ok-piece.piece c.in_ok-piece.len c.loop-at.at (values_of c.args.text.now) c.in_err-keep.field-0.0 c.in_ok-piece.ensures.value c.loop-at-test.true c.in_ok-piece.ensures.some c.in_ok-piece.ensures.within (c.in_err-keep.ensures.err other) c.loop-at.invariant.same)

pub loop-at-preserved : goal.loop-at-preserved
loop-at-preserved c = record {
  within = c.in_ok-piece.ensures.within;
  short = c.in_ok-keep.ensures.short;
  few = omega (arith, c.in_ok-keep.ensures.few, c.in_ok-piece.ensures.some);
  same = values_next c.loop-at.values c.keep.new.values c.args.text.now c.in_ok-piece.piece c.in_ok-piece.len c.loop-at.at (values_of c.args.text.now) c.in_ok-piece.ensures.value c.loop-at-test.true c.in_ok-piece.ensures.some c.in_ok-piece.ensures.within c.in_ok-keep.ensures.ok c.loop-at.invariant.same;
}
