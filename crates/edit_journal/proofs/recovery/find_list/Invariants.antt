use Rattle.std.proofs.Common.{length}
use Rattle.edit_journal.specs.Inner.Recovery.{IsFront}
use Rattle.edit_journal.proofs.recovery.find_list.Given as goal

abbrev pub invariant-gates : goal.invariant-gates
invariant-gates l = IsFront l.bytes l.rest l.bodies l.at

abbrev pub decreases-gates : goal.decreases-gates
decreases-gates l = length l.rest
