use Rattle.std.proofs.Common.{take}
use Rattle.edit_journal.specs.Held.{texts_of}
use Rattle.book_opening.specs.Inner.Opens.{IsReplay}
use Rattle.book_opening.proofs.replay.add_all.Given as goal

abbrev pub invariant-bodies : goal.invariant-bodies
invariant-bodies l = IsReplay l.fn.opening (texts_of (take l.body-index l.bodies)) l.replayed
