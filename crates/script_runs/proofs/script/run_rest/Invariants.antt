use Rattle.std.proofs.Common.{◌≡◌, ◌≤◌, ℕ, All, List, ◌++◌, length, Option}
use Rattle.db_config.specs.declared.parts.ConfigParts.{ConfigParts}
use Rattle.live_run.specs.live_book.Commits.{has_journal}
use Rattle.script_runs.specs.Bases.{Base}
use Rattle.script_runs.specs.Cuts.{cut}
use Rattle.script_runs.specs.Inner.Reached.{Reached, InLines}
use Rattle.script_runs.proofs.script.run_rest.Given as goal

-- the lines so far were run, and those of the rest come next
abbrev pub invariant-lines : goal.invariant-lines
invariant-lines g l = record {
  rises : All (λ it. it.line ≤ l.running.number) l.running.earlier;
  ran : (base : Base) (begin : g.row.D.Denot) (config : ConfigParts) (lines : List (List ℕ)) (refusals : ℕ) (before : Option (List ℕ)) → Reached g.D.Disk base begin config lines l.fn.running refusals (g.P.PatternMaker.refusals l.fn.patterns) before (g.K.Sink.written l.fn.out) → InLines g.D.Disk base begin config (lines ++ cut l.past l.bytes) (cut l.past l.rest) l.running refusals (g.P.PatternMaker.refusals l.patterns) before (g.K.Sink.written l.out);
  stored : has_journal l.running.core.book.journal ≡ has_journal l.fn.running.core.book.journal;
  later : g.K.Sink.faults l.fn.out ≤ g.K.Sink.faults l.out;
}

abbrev pub decreases-lines : goal.decreases-lines
decreases-lines g l = length l.rest
