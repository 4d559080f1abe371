use Rattle.script_runs.proofs.LiveLemmas.{was_read, given_some, lines_come, unread_told}
use Rattle.script_runs.proofs.LiveCalls.{fresh_ended}
use Rattle.script_runs.specs.Cuts.{cut}
use Rattle.std.proofs.Common.{true, rules}
use Rattle.script_runs.proofs.at_once.read_fresh.Goals as goal

pub close_run-requires : goal.close_run-requires
close_run-requires g c = unread_told c.in-Err.end c.in-Err.ensures.why

pub live_read-requires-clause-lines : goal.live_read-requires-clause-lines
live_read-requires-clause-lines g c = let h = lines_come true c.args.past (cut c.args.past c.args.bytes.now) c.in-Ok.reading (g.P.PatternMaker.refusals c.args.patterns.now) (g.P.PatternMaker.refusals c.read_script.new.patterns) c.in-Ok.ensures.read in search (rules, h)

pub live_read-requires-clause-given : goal.live_read-requires-clause-given
live_read-requires-clause-given g c = let h = given_some c.in-Ok.reading c.args.past (cut c.args.past c.args.bytes.now) (g.P.PatternMaker.refusals c.args.patterns.now) (g.P.PatternMaker.refusals c.read_script.new.patterns) c.in-Ok.ensures.read in search (rules, h)

pub returns-in-Err-clause-says : goal.returns-in-Err-clause-says
returns-in-Err-clause-says g c = λ store begin disk told over front taken.
    fresh_ended g.D.Disk.may_leave g.D.Disk.faults g.D.Disk.reads store begin disk c.args.journal over.stored over.begins over.low over.has c.requires.empty told.left told.left_after told.reads told.reads_after (g.P.PatternMaker.refusals c.args.patterns.now) (g.P.PatternMaker.refusals c.read_script.new.patterns) c.args.past c.args.bytes.now front (Unit {0}) c.in-Err.end c.close_run.result (g.K.Sink.written c.args.out.now) (g.K.Sink.written c.close_run.new.out) (g.K.Sink.faults c.args.out.now) (g.K.Sink.faults c.close_run.new.out) c.in-Err.ensures.read c.close_run.ensures.closes

pub returns-in-Ok-clause-says : goal.returns-in-Ok-clause-says
returns-in-Ok-clause-says g c = λ store begin disk told over front taken.
    let w = c.in-Ok.ensures.read in
    c.live_read.ensures.says store begin disk told (g.P.PatternMaker.refusals c.args.patterns.now) (g.P.PatternMaker.refusals c.read_script.new.patterns) w.parsed over (was_read true told.left told.left_after c.args.past c.args.bytes.now c.in-Ok.reading (g.P.PatternMaker.refusals c.args.patterns.now) (g.P.PatternMaker.refusals c.read_script.new.patterns) front taken w) w.same.config w.same.lines
