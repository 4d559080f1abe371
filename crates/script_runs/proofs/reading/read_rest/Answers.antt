use Rattle.std.proofs.Common.{◌∷◌, ◌++◌}
use Rattle.script_runs.specs.Cuts.{cut}
use Rattle.script_runs.proofs.ReadingLemmas.{ends_in, reading_more, reading_end, split_more}
use Rattle.script_runs.proofs.reading.read_rest.Goals as goal

pub returns-in-Err-clause-read : goal.returns-in-Err-clause-read
returns-in-Err-clause-read g c = λ wants lines refusals h.
    let i = c.lines.invariant.read wants lines refusals h in
    ends_in (Unit {0}) (Unit {0}) c.in-Err.end wants c.args.past (lines ++ cut c.args.past c.args.bytes.now) i.done c.in-Some.line.now (cut c.args.past c.in-Some.after.now) c.take.new.self refusals (g.P.PatternMaker.refusals c.take.new.patterns)
    (split_more (lines ++ cut c.args.past c.args.bytes.now) i.done (cut c.args.past c.lines.rest.now) (c.in-Some.line.now ∷ cut c.args.past c.in-Some.after.now) i.split c.in-Some.ensures.lines) (c.in-Err.ensures.read wants i.done refusals i.has)

pub lines-preserved : goal.lines-preserved
lines-preserved g c = record {
  rises = c.in-Ok.ensures.rises;
  few = c.in-Ok.ensures.few;
  read = λ wants lines refusals h.
      let i = c.lines.invariant.read wants lines refusals h in
      reading_more wants (lines ++ cut c.args.past c.args.bytes.now) c.in-Some.line.now (cut c.args.past c.in-Some.after.now) i.done c.take.new.self refusals (g.P.PatternMaker.refusals c.take.new.patterns)
      (split_more (lines ++ cut c.args.past c.args.bytes.now) i.done (cut c.args.past c.lines.rest.now) (c.in-Some.line.now ∷ cut c.args.past c.in-Some.after.now) i.split c.in-Some.ensures.lines) (c.in-Ok.ensures.read wants i.done refusals i.has);
}

pub returns-in-None-clause-read : goal.returns-in-None-clause-read
returns-in-None-clause-read g c = λ wants lines refusals h.
    reading_end wants (lines ++ cut c.args.past c.args.bytes.now) _ c.lines.reading refusals (g.P.PatternMaker.refusals c.lines.patterns) c.in-None.ensures.lines (c.lines.invariant.read wants lines refusals h)
