use Rattle.work_script.proofs.summary.rows_at.Given as goal

-- nothing is known of the replies so far
abbrev pub invariant-loop-reply : goal.invariant-loop-reply
invariant-loop-reply l = Unit {0}
