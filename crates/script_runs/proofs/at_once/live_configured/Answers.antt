use Rattle.std.proofs.Common.{◌∙◌}
use Rattle.script_runs.proofs.LiveCalls.{fresh_ran, fresh_refused}
use Rattle.script_runs.proofs.at_once.live_configured.Goals as goal

pub returns-in-Ok-clause-says : goal.returns-in-Ok-clause-says
returns-in-Ok-clause-says g c = λ store begin disk told refusals refusals_after parsed over x given requests.
    fresh_ran g.D.Disk.may_leave g.D.Disk.faults g.D.Disk.reads store begin disk c.args.journal over.stored over.begins over.low told.left told.left_after told.reads told.reads_after refusals refusals_after parsed x c.args.config given (g.K.Sink.written c.args.out.now) (g.K.Sink.written c.live_over.new.out) (g.K.Sink.faults c.args.out.now) (g.K.Sink.faults c.live_over.new.out) c.in-Ok.made.book c.args.lines.now c.live_over.result.journal c.live_over.result.status c.in-Ok.ensures.made c.in-Ok.ensures.later over.has requests c.live_over.ensures.ends

pub returns-in-Err-clause-says : goal.returns-in-Err-clause-says
returns-in-Err-clause-says g c = λ store begin disk told refusals refusals_after parsed over x given requests.
    fresh_refused g.D.Disk.may_leave g.D.Disk.faults g.D.Disk.reads store begin disk c.args.journal over.stored over.begins over.low told.left told.left_after told.reads told.reads_after refusals refusals_after parsed x c.args.config given (g.K.Sink.written c.args.out.now) (g.K.Sink.written c.close_run.new.out) (g.K.Sink.faults c.args.out.now) (g.K.Sink.faults c.close_run.new.out) g.D.Disk.moment g.D.Disk.left_since (g.met.D.Disk g.world.𝓛 g.world.𝓜 g.world.𝓡 ((λ s x. x), (λ x. x), (λ x. x), λ x. x)).counts_now c.requires.empty (Unit {0}) c.in-Err.refused.journal c.in-Err.refused.fault c.no_book.result c.close_run.result over.has c.no_book.ensures c.in-Err.ensures.refused c.in-Err.ensures.any_moment_err c.close_run.ensures.closes

pub returns-in-Ok-clause-stored : goal.returns-in-Ok-clause-stored
returns-in-Ok-clause-stored g c = c.live_over.ensures.stored ∙ c.in-Ok.ensures.made.stored
