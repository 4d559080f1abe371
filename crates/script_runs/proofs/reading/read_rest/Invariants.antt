use Rattle.std.proofs.Common.{◌≤◌, ℕ, Bool, All, List, ◌++◌, length}
use Rattle.emu_names.specs.declared.limits.TheConstants.{SCRIPT_LINES}
use Rattle.script_runs.specs.Cuts.{cut}
use Rattle.script_runs.specs.Inner.Reads.{HasRead, InReading}
use Rattle.script_runs.proofs.reading.read_rest.Given as goal

-- the lines so far were read, and those of the rest come next
abbrev pub invariant-lines : goal.invariant-lines
invariant-lines g l = record {
  rises : All (λ it. it.line ≤ l.reading.number) l.reading.earlier;
  few : l.reading.number ≤ SCRIPT_LINES;
  read : (wants : Bool) (lines : List (List ℕ)) (refusals : ℕ) → HasRead wants lines l.fn.reading refusals (g.P.PatternMaker.refusals l.fn.patterns) → InReading wants (lines ++ cut l.past l.bytes) (cut l.past l.rest) l.reading refusals (g.P.PatternMaker.refusals l.patterns);
}

abbrev pub decreases-lines : goal.decreases-lines
decreases-lines g l = length l.rest
