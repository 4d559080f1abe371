-- What threads of a query share.
use Prim.Native.Nat.{ℕ}
use mathlib.Core.List.{List, [], ◌∷◌}
use denote.RattleType.{RattleType}
use denote.Enum.Enum.{Enum}
use denote.Enum.Declared.{shape}
use denote.Param.Send.{IsSend, IsSync, sendable, view_sync, recorded_sync, shr_send}
use denote.Param.SendFields.{declared_send, declared_sync}
use denote.Ref.{NamedLft, ShrRef}
use denote.Struct.Field.{u32-field, u64-field}
use denote.Struct.Tuple.{TupleAt, type_at}
use Rattle.std.proofs.Crossing.{crosses}
use Rattle.std.specs.contracts.alloc.Global as global
use Rattle.eql_resolve.proofs.Threads.{asked_sync}
use Rattle.version_tree.proofs.version.Version.TheSendSync as versions
use Rattle.version_tree.specs.contracts.version.Version as version
use Rattle.session_core.specs.requery.contracts.reached.Reached as reached
use Rattle.query_workers.specs.contracts.question.Question as question

pub reached_sync : (a : NamedLft) → IsSync (reached.the_row a)
reached_sync a = view_sync (reached.TheInside.the_row a) _ _ _ _ (declared_sync (reached.TheInside.the_type a) (asked_sync a, (search (crosses, sendable) depth 20, tt)))

question_choice_sync : (q a : NamedLft) → IsSync (Enum (shape (question.the_type q a)))
question_choice_sync q a = search (asked_sync, reached_sync, crosses, sendable) depth 30

pub question_sync : (q a : NamedLft) → IsSync (question.the_row q a)
question_sync q a = recorded_sync _ _ _ (question.the_type q a).to_one (question_choice_sync q a)

module _ (r v l q a e : NamedLft) (R G : RattleType) where
  -- what a half of the work takes to its thread
  abbrev pub half_parts : List RattleType
  half_parts =
      ShrRef r.mir r.lft R ∷ global.the_row ∷ ShrRef v.mir v.lft version.the_row ∷ ShrRef l.mir l.lft (question.the_row q a)
      ∷ (u32-field).row ∷ ShrRef e.mir e.lft G ∷ (u64-field).row ∷ (u64-field).row ∷ (u64-field).row ∷ []

  pub half_send : (name : List ℕ) → IsSync R → IsSync G → IsSend (TupleAt name half_parts)
  half_send name rt gate =
      let threads : IsSend (ShrRef r.mir r.lft R) = shr_send _ _ _ rt in
      let gates : IsSend (ShrRef e.mir e.lft G) = shr_send _ _ _ gate in
      let over : IsSend (ShrRef v.mir v.lft version.the_row) = shr_send _ _ _ versions.the_sync in
      let asked : IsSend (ShrRef l.mir l.lft (question.the_row q a)) = shr_send _ _ _ (question_sync q a) in
      declared_send (type_at name half_parts) (
        search (threads, sendable) depth 20,
        (
          search (crosses, sendable) depth 20,
          (
            search (over, sendable) depth 20,
            (
              search (asked, sendable) depth 20,
              (
                search sendable depth 20,
                (
                  search (gates, sendable) depth 20,
                  (search sendable depth 20, (search sendable depth 20, (search sendable depth 20, tt))),
                ),
              ),
            ),
          ),
        ),
      )
