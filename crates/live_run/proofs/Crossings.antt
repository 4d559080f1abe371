-- What threads may share, and what may be sent to them.
use mathlib.Core.List.{List, [], ◌∷◌}
use denote.RattleType.{RattleType}
use denote.Hole.{as_row}
use denote.Struct.Field.{Field}
use denote.Struct.Tuple.{TupleAt, type_at}
use denote.Param.Send.{IsSend, IsSync, sendable}
use denote.Param.SendFields.{declared_send, declared_sync}
use denote.Ref.{NamedLft}
use Rattle.std.proofs.Crossing.{crosses}
use Rattle.std.proofs.sync.OnceLock.TheSendSync as once
use Rattle.std.proofs.sync.OnceToken.TheSendSync as token
use Rattle.live_run.specs.contracts.lanes.Job as job
use Rattle.live_run.specs.contracts.lanes.LaneOf as lane
use Rattle.live_run.specs.contracts.lanes.Ran as ran
use Rattle.live_run.specs.contracts.lanes.Start as start
use Rattle.live_seats.proofs.Crossings.{line_sync, seat_send}

start_send : IsSend start.the_row
start_send = declared_send start.the_type (search (crosses, sendable) depth 20, tt)

start_sync : IsSync start.the_row
start_sync = declared_sync start.the_type (search (crosses, sendable) depth 20, tt)

pub lane_send : (a : NamedLft) → IsSend (lane.the_row a)
lane_send a =
    declared_send (lane.the_type a) (
      search (line_sync, crosses, sendable) depth 30,
      (search (once.the_sync, start_send, start_sync, sendable) depth 30, (search (crosses, sendable) depth 30, (search (crosses, sendable) depth 30, tt))),
    )

pub ran_send : (a : NamedLft) (K N : RattleType) (o : _) (l : _) (r : _) (n : _) → IsSend (ran.the_row a K N o l r n)
ran_send a K N o l r n =
    declared_send (ran.the_type a K N o l r n) (seat_send a K N o l r n, (search (token.the_send, sendable) depth 20, tt))

-- what is said of the first of some fields
abbrev pub First : (RattleType → Type 0) → List Field → Type 0
First H [] = Unit {0}
First H (F ∷ Fs) = H (as_row F)

pub job_send : (a l : NamedLft) (K N D G : RattleType) (x1 : _) (x2 : _) (x3 : _) (x4 : _) (x5 : _)
    → First IsSend (job.the_type a l K N D G x1 x2 x3 x4 x5).parts → IsSend (job.the_row a l K N D G x1 x2 x3 x4 x5)
job_send a l K N D G x1 x2 x3 x4 x5 around =
    declared_send (job.the_type a l K N D G x1 x2 x3 x4 x5) (around, (lane_send a, (seat_send a K N x1 x4 x2 x5, tt)))

-- what two values share that go to a thread together
pub two_send : (name : _) (R Q : RattleType) → IsSend R → IsSend Q → IsSend (TupleAt name (R ∷ Q ∷ []))
two_send name R Q r q =
    declared_send (type_at name (R ∷ Q ∷ [])) (search (r, sendable) depth 20, (search (q, sendable) depth 20, tt))
