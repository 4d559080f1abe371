use Rattle.std.proofs.Common.{◌+◌, false, Some, ap, ◌∙◌, arith}
use Rattle.eql_rows.proofs.Walk.{flag_is}
use Rattle.eql_match.proofs.Steps.{put_nothing, past_flag}
use Rattle.eql_match.proofs.found.put_followed.Goals.{then-at-len-via-then-at-len, then-at-len-via-else-at-len+then-not-get}
use Rattle.eql_match.proofs.found.put_followed.Goals as goal

pub returns-then-at-len : goal.returns-then-at-len
returns-then-at-len c = elim c.then-at-len.branch [
  | then-at-len-via-then-at-len w ↦
      put_nothing c.args.made.now c.args.at c.args.rights.now (past_flag c.args.rights.now (c.args.at + 1) (omega (arith, c.len.ensures, w.if-at-len.true)))
  | then-at-len-via-else-at-len+then-not-get w ↦
      put_nothing c.args.made.now c.args.at c.args.rights.now
      (flag_is c.args.rights.now (c.args.at + 1) false (w.get.ensures ∙ ap (λ b. Some b) w.if-not-get.true))
]
