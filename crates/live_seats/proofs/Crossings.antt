-- What threads may share of a seat, and what may be sent to them.
use denote.RattleType.{RattleType}
use denote.Enum.Enum.{Enum}
use denote.Enum.Declared.{shape}
use denote.Struct.Declared.{shape as struct_shape}
use denote.Param.Send.{IsSend, IsSync, sendable, view_send, enum_sync, recorded_sync, struct_sync}
use denote.Param.SendFields.{declared_send, declared_sync}
use denote.Ref.{NamedLft}
use Rattle.std.proofs.Crossing.{crosses, Arc-send, Vec-send}
use Rattle.std.proofs.option.Option.TheSendSync as option
use Rattle.std.proofs.sync.OnceLock.TheSendSync as once
use Rattle.std.proofs.sync.OnceToken.TheSendSync as token
use Rattle.eql_resolve.proofs.Threads.{prepared_sync}
use Rattle.edit_undo.proofs.of_edit_rules.acts.Act.TheSendSync as act
use Rattle.textgrid.proofs.fault.GridFault.TheSendSync as fault
use Rattle.requery.proofs.target.Requery.TheSendSync as requery
use Rattle.version_gate.proofs.pass.Pass.TheSendSync as pass
use Rattle.live_book.proofs.Crossings.{live_sync}
use Rattle.live_book.proofs.live.Share.TheSendSync as share
use Rattle.live_book.proofs.published.Published.TheSendSync as published
use Rattle.query_workers.proofs.of_session_core.kept_acts.KeptActs.TheSendSync as kept_acts
use Rattle.query_workers.proofs.of_session_core.Threads.{reply_send}
use Rattle.query_workers.proofs.of_session_core.slots.Slots.TheSendSync as slots
use Rattle.query_workers.specs.session_core.contracts.line.Ask as ask
use Rattle.query_workers.specs.session_core.contracts.line.Request as request
use Rattle.query_workers.specs.session_core.contracts.line.Line as line
use Rattle.live_seats.specs.contracts.answered.Answered as answered
use Rattle.live_seats.specs.contracts.around.Around as around
use Rattle.live_seats.specs.contracts.looks.Look as look
use Rattle.live_seats.specs.contracts.notes.Told as told
use Rattle.live_seats.specs.contracts.seat.Seat as seat

pub ask_sync : IsSync ask.the_row
ask_sync = declared_sync ask.the_type (
  search (prepared_sync, crosses, sendable) depth 30,
  (search (crosses, sendable) depth 30, (search (requery.the_sync, option.the_sync, option.the_field_sync, crosses, sendable) depth 30, tt)),
)

pub ask_field_sync : IsSync (ask.the_field).row
ask_field_sync = struct_sync (struct_shape ask.the_type) (
  search (prepared_sync, crosses, sendable) depth 30,
  (search (crosses, sendable) depth 30, (search (requery.the_sync, option.the_sync, option.the_field_sync, crosses, sendable) depth 30, tt)),
)

request_choice : IsSync (Enum (shape request.the_type))
request_choice =
    enum_sync (shape request.the_type) (
      (search (act.the_sync, fault.the_sync, crosses, sendable) depth 30, tt),
      (
        (search (crosses, sendable) depth 20, tt),
        (
          (search (ask_field_sync, crosses, sendable) depth 20, tt),
          ((search (ask_field_sync, crosses, sendable) depth 20, tt), (tt, ((search (crosses, sendable) depth 20, tt), tt))),
        ),
      ),
    )

pub request_sync : IsSync request.the_row
request_sync = recorded_sync _ _ _ (request.the_type).to_one request_choice

pub line_sync : IsSync line.the_row
line_sync =
    declared_sync line.the_type (
      search (crosses, sendable) depth 30,
      (search (crosses, sendable) depth 30, (search (crosses, sendable) depth 30, (request_sync, tt))),
    )

pub look_send : (a : NamedLft) → IsSend (look.the_row a)
look_send a = view_send (look.TheInside.the_row a) _ _ _ _ (declared_send (look.TheInside.the_type a) (
  search sendable depth 20,
  (search sendable depth 20, (search (ask_sync, sendable) depth 20, (search (published.the_send, published.the_sync, Arc-send, sendable) depth 20, tt))),
))

pub told_send : (a : NamedLft) (K : RattleType) (r : _) → IsSend (told.the_row a K r)
told_send a K r =
    view_send (told.TheInside.the_row a K r) _ _ _ _ (declared_send (told.TheInside.the_type a K r) (
      search (token.the_send, sendable) depth 20,
      (search sendable depth 20, (search sendable depth 20, tt)),
    ))

pub answered_send : (a : NamedLft) (K : RattleType) (r : _) → IsSend (answered.the_row a K r)
answered_send a K r =
    view_send (answered.TheInside.the_row a K r) _ _ _ _ (declared_send (answered.TheInside.the_type a K r) (
      search (line_sync, sendable) depth 20,
      (
        search (reply_send, sendable) depth 20,
        (told_send a K r, (search (told_send, option.the_send, option.the_field_send, sendable) depth 30, tt)),
      ),
    ))

pub seat_send : (a : NamedLft) (K N : RattleType) (o : _) (l : _) (r : _) (n : _) → IsSend (seat.the_row a K N o l r n)
seat_send a K N o l r n =
    view_send (seat.TheInside.the_row a K N o l r n) _ _ _ _ (declared_send (seat.TheInside.the_type a K N o l r n) (
      search (pass.the_send, published.the_send, published.the_sync, sendable) depth 20,
      (
        search (share.the_send, sendable) depth 20,
        (
          search (slots.the_send, look_send, sendable) depth 20,
          (search (kept_acts.the_send, sendable) depth 20, (search (answered_send, Vec-send, sendable) depth 20, tt)),
        ),
      ),
    ))

pub around_sync : (a l : NamedLft) (K N D G : RattleType) (x1 : _) (x2 : _) (x3 : _) (x4 : _) (x5 : _) → IsSend D
    → IsSync G → IsSync (around.the_row a l K N D G x1 x2 x3 x4 x5)
around_sync a l K N D G x1 x2 x3 x4 x5 s y =
    declared_sync (around.the_type a l K N D G x1 x2 x3 x4 x5) (
      search sendable depth 20,
      (
        search (live_sync, s, sendable) depth 20,
        (search (once.the_sync, sendable) depth 20, (search (y, sendable) depth 20, (search sendable depth 20, tt))),
      ),
    )
