use Rattle.std.proofs.Common.{[]}
use Rattle.script_runs.specs.Cuts.{cut}
use Rattle.script_runs.proofs.ReadingLemmas.{has_none, script_end}
use Rattle.script_runs.proofs.reading.read_script.Goals as goal

pub returns-in-Ok-clause-read : goal.returns-in-Ok-clause-read
returns-in-Ok-clause-read g c =
    script_end c.at_end.result c.args.wants c.args.past (cut c.args.past c.args.bytes.now) c.read_rest.new.reading (g.P.PatternMaker.refusals c.args.patterns.now) (g.P.PatternMaker.refusals c.read_rest.new.patterns) c.at_end.ensures
    (c.in-Ok.ensures.read c.args.wants [] (g.P.PatternMaker.refusals c.args.patterns.now) (has_none c.args.wants c.new-reading.result (g.P.PatternMaker.refusals c.args.patterns.now) c.new-reading.ensures.same))

pub returns-in-Err-clause-read : goal.returns-in-Err-clause-read
returns-in-Err-clause-read g c =
    c.in-Err.ensures.read c.args.wants [] (g.P.PatternMaker.refusals c.args.patterns.now) (has_none c.args.wants c.new-reading.result (g.P.PatternMaker.refusals c.args.patterns.now) c.new-reading.ensures.same)
