use Rattle.std.proofs.Common.{◌≡◌, drop}
use Rattle.edit_undo.specs.edit_rules.Effects.{after, replayed}
use Rattle.plain_core.proofs.moves.replay.Given as goal

abbrev pub invariant-loop-entry : goal.invariant-loop-entry
invariant-loop-entry l = replayed l.database (drop l.entry-index l.entry-items) ≡ after l.fn.config l.fn.history
