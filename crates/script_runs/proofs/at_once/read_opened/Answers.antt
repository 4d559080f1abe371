use Rattle.script_runs.proofs.LiveLemmas.{was_read, lines_come, unread_told}
use Rattle.script_runs.proofs.LiveCalls.{store_ended, store_ran}
use Rattle.script_runs.specs.Cuts.{cut}
use Rattle.std.proofs.Common.{false, rules, sym}
use Rattle.script_runs.proofs.at_once.read_opened.Goals as goal

pub close_run-requires : goal.close_run-requires
close_run-requires g c = unread_told c.in-Err.end c.in-Err.ensures.why

pub live_over-requires-clause-lines : goal.live_over-requires-clause-lines
live_over-requires-clause-lines g c = let h = lines_come false c.args.past (cut c.args.past c.args.bytes.now) c.in-Ok.reading (g.P.PatternMaker.refusals c.args.patterns.now) (g.P.PatternMaker.refusals c.read_script.new.patterns) c.in-Ok.ensures.read in search (rules, h)

pub returns-in-Err-clause-says : goal.returns-in-Err-clause-says
returns-in-Err-clause-says g c = λ begin disk told over front taken.
    store_ended g.D.Disk.may_leave g.D.Disk.faults g.D.Disk.reads begin disk c.args.book c.requires.stored c.requires.sound over.begins over.low c.into_journal.result over.has c.into_journal.ensures.journal told.left told.left_after told.reads told.reads_after (g.P.PatternMaker.refusals c.args.patterns.now) (g.P.PatternMaker.refusals c.read_script.new.patterns) c.args.past c.args.bytes.now front (Unit {0}) c.in-Err.end c.close_run.result (g.K.Sink.written c.args.out.now) (g.K.Sink.written c.close_run.new.out) (g.K.Sink.faults c.args.out.now) (g.K.Sink.faults c.close_run.new.out) c.in-Err.ensures.read c.close_run.ensures.closes

pub returns-in-Ok-clause-says : goal.returns-in-Ok-clause-says
returns-in-Ok-clause-says g c = λ begin disk told over front taken.
    let w = c.in-Ok.ensures.read in
    store_ran g.D.Disk.may_leave g.D.Disk.faults g.D.Disk.reads begin disk c.args.book c.requires.stored c.requires.sound over.begins over.low c.live_over.result.journal over.has told.left told.left_after told.reads told.reads_after (g.P.PatternMaker.refusals c.args.patterns.now) (g.P.PatternMaker.refusals c.read_script.new.patterns) w.parsed (was_read false told.left told.left_after c.args.past c.args.bytes.now c.in-Ok.reading (g.P.PatternMaker.refusals c.args.patterns.now) (g.P.PatternMaker.refusals c.read_script.new.patterns) front taken w) c.in-Ok.reading.lines (sym w.same.lines) c.live_over.result.status (g.K.Sink.written c.args.out.now) (g.K.Sink.written c.live_over.new.out) (g.K.Sink.faults c.args.out.now) (g.K.Sink.faults c.live_over.new.out) c.live_over.ensures.ends
