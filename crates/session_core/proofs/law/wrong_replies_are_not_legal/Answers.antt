use Rattle.session_core.proofs.Alone.{stale, exact, recorded, recorded_accepted}
use Rattle.session_core.proofs.law.wrong_replies_are_not_legal.Goals as goal

pub returns : goal.returns
returns c = record { stale = stale; exact = exact; recorded = recorded; accepted = recorded_accepted }
