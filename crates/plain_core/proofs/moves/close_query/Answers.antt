use Rattle.std.proofs.Common.{Option, None, List, ap, sym}
use Rattle.session_core.specs.declared.line.Reply.{Reply}
use Rattle.session_core.specs.declared.slots.Held.{Held}
use Rattle.session_core.proofs.SlotPlaces.{put_slot_none}
use Rattle.plain_core.proofs.moves.close_query.Goals as goal

pub returns-in-None-clause-ok : goal.returns-in-None-clause-ok
returns-in-None-clause-ok c =
    let answered : List (Option Held) → Option Reply × List (Option Held) = λ queries. (None, queries) in
    rw (← c.in-None.ensures.taken, c.in-None.ensures.left)
    (ap answered (put_slot_none c.args.queries.now c.args.session.0 (sym c.in-None.ensures.taken)))
