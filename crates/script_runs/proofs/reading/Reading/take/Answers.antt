use Rattle.std.proofs.Common.{refl}
use Rattle.script_runs.proofs.ReadingLemmas.{has_blank, has_config, ends_unread, adds_request, adds_rise}
use Rattle.script_runs.proofs.reading.Reading.take.Goals as goal

pub returns-in-Err-clause-read : goal.returns-in-Err-clause-read
returns-in-Err-clause-read g c = λ wants lines refusals h. ends_unread (Unit {0}) c.in-Err.end wants lines c.args.line.now c.args.self.now _ refusals (g.P.PatternMaker.refusals c.args.patterns.now) (g.P.PatternMaker.refusals c.read_next.new.patterns) h c.in-Err.ensures.next

pub returns-in-Ok-Blank-clause-read : goal.returns-in-Ok-Blank-clause-read
returns-in-Ok-Blank-clause-read g c = λ wants lines refusals h.
    has_blank wants lines c.args.line.now c.args.self.now _ refusals (g.P.PatternMaker.refusals c.args.patterns.now) (g.P.PatternMaker.refusals c.read_next.new.patterns) h (rw c.in-Ok-Blank.field-0-is at c.in-Ok-Blank.ensures.next) refl refl refl refl refl

pub returns-in-Ok-Config-clause-read : goal.returns-in-Ok-Config-clause-read
returns-in-Ok-Config-clause-read g c = λ wants lines refusals h.
    has_config wants lines c.args.line.now c.args.self.now _ c.in-Ok-Config.config refusals (g.P.PatternMaker.refusals c.args.patterns.now) (g.P.PatternMaker.refusals c.read_next.new.patterns) h (rw c.in-Ok-Config.field-0-is at c.in-Ok-Config.ensures.next) refl refl refl refl refl

pub returns-in-Ok-Request-clause-read : goal.returns-in-Ok-Request-clause-read
returns-in-Ok-Request-clause-read g c = λ wants lines refusals h.
    adds_request c.add.result wants lines c.args.line.now c.args.self.now c.add.new.self c.in-Ok-Request.request refusals (g.P.PatternMaker.refusals c.args.patterns.now) (g.P.PatternMaker.refusals c.read_next.new.patterns) h (rw c.in-Ok-Request.field-0-is at c.in-Ok-Request.ensures.next)
    c.add.ensures.number c.add.ensures.wants c.add.ensures.config c.add.ensures.lines c.add.ensures.earlier c.add.ensures.why

pub returns-in-Ok-Request-clause-rises : goal.returns-in-Ok-Request-clause-rises
returns-in-Ok-Request-clause-rises g c =
    adds_rise c.add.result c.args.self.now c.add.new.self c.args.self.now.wants c.in-Ok-Request.request c.requires (rw c.in-Ok-Request.field-0-is at c.in-Ok-Request.ensures.known) c.add.ensures.number c.add.ensures.earlier
