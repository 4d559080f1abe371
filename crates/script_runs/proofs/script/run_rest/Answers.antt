use Rattle.std.proofs.Common.{◌∷◌, ◌++◌, ◌∙◌, arith}
use Rattle.script_runs.specs.Cuts.{cut}
use Rattle.script_runs.specs.Inner.Reached.{IsRunKept}
use Rattle.script_runs.proofs.RunLemmas.{ends_in, lines_more, lines_end, split_more, rest_is}
use Rattle.script_runs.proofs.script.run_rest.Goals as goal

pub returns-in-Err-clause-ran : goal.returns-in-Err-clause-ran
returns-in-Err-clause-ran g c = λ base begin config lines refusals before r.
    let i = c.lines.invariant.ran base begin config lines refusals before r in
    ends_in base (IsRunKept g.D.Disk base begin c.one_line.new.running.core.book.journal) c.in-Err.end (λ config. ⊥) c.args.past (lines ++ cut c.args.past c.args.bytes.now) i.done c.in-Some.line.now (cut c.args.past c.in-Some.after.now) refusals (g.P.PatternMaker.refusals c.one_line.new.patterns) before (g.K.Sink.written c.one_line.new.out) (split_more (lines ++ cut c.args.past c.args.bytes.now) i.done (cut c.args.past c.lines.rest.now) (c.in-Some.line.now ∷ cut c.args.past c.in-Some.after.now) i.split c.in-Some.ensures.lines) (c.in-Err.ensures.ran base begin config i.done refusals before i.reached)

pub lines-preserved : goal.lines-preserved
lines-preserved g c = record {
  rises = c.in-Ok.ensures.rises;
  ran = λ base begin config lines refusals before r.
      let i = c.lines.invariant.ran base begin config lines refusals before r in
      lines_more g.D.Disk base begin config (lines ++ cut c.args.past c.args.bytes.now) c.in-Some.line.now (cut c.args.past c.in-Some.after.now) i.done c.one_line.new.running refusals (g.P.PatternMaker.refusals c.one_line.new.patterns) before (g.K.Sink.written c.one_line.new.out) (split_more (lines ++ cut c.args.past c.args.bytes.now) i.done (cut c.args.past c.lines.rest.now) (c.in-Some.line.now ∷ cut c.args.past c.in-Some.after.now) i.split c.in-Some.ensures.lines) (c.in-Ok.ensures.ran base begin config i.done refusals before i.reached);
  stored = c.in-Ok.ensures.stored ∙ c.lines.invariant.stored;
  later = omega (arith, c.lines.invariant.later, c.in-Ok.ensures.later);
}

pub returns-in-None-clause-ran : goal.returns-in-None-clause-ran
returns-in-None-clause-ran g c = λ base begin config lines refusals before r.
    lines_end g.D.Disk base begin config (lines ++ cut c.args.past c.args.bytes.now) c.lines.running refusals (g.P.PatternMaker.refusals c.lines.patterns) before (g.K.Sink.written c.lines.out) (rest_is g.D.Disk base begin config _ _ c.lines.running refusals (g.P.PatternMaker.refusals c.lines.patterns) before (g.K.Sink.written c.lines.out) c.in-None.ensures.lines (c.lines.invariant.ran base begin config lines refusals before r))
