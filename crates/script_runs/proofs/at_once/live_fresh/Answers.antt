use Rattle.std.proofs.Common.{ap}
use Rattle.script_runs.specs.Told.{source_told}
use Rattle.script_runs.proofs.EndLemmas.{err_fault}
use Rattle.script_runs.proofs.LiveCalls.{fresh_unread}
use Rattle.script_runs.proofs.at_once.live_fresh.Goals as goal

pub returns-in-Err-clause-says : goal.returns-in-Err-clause-says
returns-in-Err-clause-says g c = λ store begin disk over.
    fresh_unread g.D.Disk.may_leave g.D.Disk.faults g.D.Disk.reads store begin disk c.args.journal over.stored over.begins over.low over.has c.requires.empty (g.S.Source.left c.args.script.now) (g.S.Source.left c.read_front.new.source) (g.S.Source.faults c.args.script.now) (g.S.Source.faults c.read_front.new.source) (g.P.PatternMaker.refusals c.args.patterns.now) c.in-Err.fault c.unread.result (g.K.Sink.written c.args.out.now) (g.K.Sink.faults c.args.out.now) c.unread.ensures (λ e. c.in-Err.ensures.failed (ap err_fault e))

pub returns-in-Ok-clause-says : goal.returns-in-Ok-clause-says
returns-in-Ok-clause-says g c = λ store begin disk over.
    c.read_fresh.ensures.says store begin disk (source_told g.S.Source c.args.script.now c.read_front.new.source) over (rw c.as_slice-bytes.ensures.value c.in-Ok.ensures.front) (rw c.as_slice-bytes.ensures.value c.in-Ok.ensures.taken)
