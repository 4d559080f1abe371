use Rattle.script_runs.proofs.LiveLemmas.{ends_over, stored_over}
use Rattle.script_runs.proofs.at_once.live_over.Goals as goal

pub returns-clause-ends : goal.returns-clause-ends
returns-clause-ends g c =
    ends_over g.D.Disk.may_leave g.D.Disk.faults c.args.book c.run_live-book.result.book c.args.given c.args.lines.now c.run_live-book.result.ended c.into_journal.result c.answer-status.result (g.K.Sink.written c.args.out.now) (g.K.Sink.written c.answer-status.new.out) (g.K.Sink.faults c.args.out.now) (g.K.Sink.faults c.answer-status.new.out) c.run_live-book.ensures c.into_journal.ensures.journal c.into_journal.ensures.kept c.requires.lines c.answer-status.ensures

pub returns-clause-stored : goal.returns-clause-stored
returns-clause-stored g c =
    stored_over g.D.Disk.may_leave g.D.Disk.faults c.args.book c.run_live-book.result.book c.args.lines.now c.run_live-book.result.ended c.into_journal.result c.run_live-book.ensures c.into_journal.ensures.journal
