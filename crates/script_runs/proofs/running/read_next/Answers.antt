use Rattle.std.proofs.Common.{◌≢◌, ◌+◌, arith, rules}
use Rattle.script_lines.specs.declared.faults.LineFault.TheVariants as faults
use Rattle.script_lines.proofs.KnownLines.{known}
use Rattle.script_runs.proofs.NextLemmas.{within, next_read, next_fault}
use Rattle.script_runs.proofs.running.read_next.Goals as goal

pub returns-in-Ok-clause-known : goal.returns-in-Ok-clause-known
returns-in-Ok-clause-known g c = known c.args.line.now (c.args.number + 1) c.args.wants_config c.args.earlier.now c.in-Ok.ensures.read.made c.in-Ok.read c.in-Ok.ensures.read.read

pub returns-in-Ok-clause-next : goal.returns-in-Ok-clause-next
returns-in-Ok-clause-next g c =
    next_read c.in-Ok.read c.args.line.now (c.args.number + 1) c.args.wants_config c.args.earlier.now (g.P.PatternMaker.refusals c.args.patterns.now) (g.P.PatternMaker.refusals c.read_line.new.maker)
    (within (c.args.number + 1) c.args.line.now (omega (arith, c.if-number-ge-SCRIPT_LINES.false)) c.if-line-gt-LINE_BYTES.false) c.in-Ok.ensures.read

pub returns-in-Err-clause-next : goal.returns-in-Err-clause-next
returns-in-Err-clause-next g c =
    let other : c.in-Err.fault ≢ faults.Memory = search rules in (
      next_fault c.in-Err.fault c.args.line.now (c.args.number + 1) c.args.wants_config c.args.earlier.now (g.P.PatternMaker.refusals c.args.patterns.now) (g.P.PatternMaker.refusals c.read_line.new.maker)
          (within (c.args.number + 1) c.args.line.now (omega (arith, c.if-number-ge-SCRIPT_LINES.false)) c.if-line-gt-LINE_BYTES.false) other c.in-Err.ensures.read,
      other,
    )
