-- What may be sent to a thread, and what threads may share.
use denote.Enum.Enum.{Enum}
use denote.Enum.Declared.{shape}
use denote.Param.Send.{IsSend, IsSync, sendable, view_send, view_sync, enum_send, enum_sync, recorded_send, recorded_sync}
use denote.Param.SendFields.{declared_send, declared_sync}
use Rattle.std.proofs.Crossing.{crosses}
use Rattle.emu_names.proofs.texts.Text.TheSendSync as text
use Rattle.eql_syntax.proofs.Threads.{query_send, query_sync}
use Rattle.label_match.proofs.Threads.{pattern_send, pattern_sync}
use denote.Ref.{NamedLft}
use Rattle.eql_resolve.specs.contracts.prepared.Prepared as prepared
use Rattle.eql_resolve.specs.contracts.asked.Asked as asked
use Rattle.eql_resolve.specs.contracts.asked.AskedQuery as query
use Rattle.eql_resolve.specs.contracts.asked.AskedTerm as term
use Rattle.eql_resolve.specs.contracts.asked.Wanted as wanted
use Rattle.eql_resolve.proofs.asked.AskedQuery.TheLaws.TheKnot.{send-AskedQuery, sync-AskedQuery}

pub prepared_send : IsSend prepared.the_row
prepared_send = view_send prepared.TheInside.the_row _ _ _ _ (declared_send prepared.TheInside.the_type (query_send, (search (pattern_send, crosses) depth 20, tt)))

pub prepared_sync : IsSync prepared.the_row
prepared_sync = view_sync prepared.TheInside.the_row _ _ _ _ (declared_sync prepared.TheInside.the_type (query_sync, (search (pattern_sync, crosses) depth 20, tt)))

wanted_choice_send : (a : NamedLft) → IsSend (Enum (shape (wanted.the_type a)))
wanted_choice_send a = search (pattern_sync, text.the_sync, crosses, sendable) depth 30

wanted_choice_sync : (a : NamedLft) → IsSync (Enum (shape (wanted.the_type a)))
wanted_choice_sync a = search (pattern_sync, text.the_sync, crosses, sendable) depth 30

term_choice_send : (a : NamedLft) → IsSend (Enum (shape (term.the_type a)))
term_choice_send a =
    enum_send (shape (term.the_type a)) (
      (search sendable depth 20, (search sendable depth 20, (search sendable depth 20, (wanted_choice_send a, tt)))),
      (
        (search sendable depth 20, (search sendable depth 20, (search sendable depth 20, (search sendable depth 20, (search sendable depth 20, tt))))),
        ((search sendable depth 20, (search sendable depth 20, (search sendable depth 20, (search sendable depth 20, (search sendable depth 20, tt))))), tt),
      ),
    )

term_choice_sync : (a : NamedLft) → IsSync (Enum (shape (term.the_type a)))
term_choice_sync a =
    enum_sync (shape (term.the_type a)) (
      (search sendable depth 20, (search sendable depth 20, (search sendable depth 20, (wanted_choice_sync a, tt)))),
      (
        (search sendable depth 20, (search sendable depth 20, (search sendable depth 20, (search sendable depth 20, (search sendable depth 20, tt))))),
        ((search sendable depth 20, (search sendable depth 20, (search sendable depth 20, (search sendable depth 20, (search sendable depth 20, tt))))), tt),
      ),
    )

term_send : (a : NamedLft) → IsSend (term.the_row a)
term_send a = recorded_send _ _ _ (term.the_type a).to_one (term_choice_send a)

term_sync : (a : NamedLft) → IsSync (term.the_row a)
term_sync a = recorded_sync _ _ _ (term.the_type a).to_one (term_choice_sync a)

asked_query_send : (a : NamedLft) → IsSend (query.the_row a)
asked_query_send a = search (send-AskedQuery, term_send, crosses, sendable) depth 30

asked_query_sync : (a : NamedLft) → IsSync (query.the_row a)
asked_query_sync a = search (sync-AskedQuery, term_sync, crosses, sendable) depth 30

pub asked_send : (a : NamedLft) → IsSend (asked.the_row a)
asked_send a = view_send (asked.TheInside.the_row a) _ _ _ _ (declared_send (asked.TheInside.the_type a) (asked_query_send a, (search (crosses, sendable) depth 20, tt)))

pub asked_sync : (a : NamedLft) → IsSync (asked.the_row a)
asked_sync a = view_sync (asked.TheInside.the_row a) _ _ _ _ (declared_sync (asked.TheInside.the_type a) (asked_query_sync a, (search (crosses, sendable) depth 20, tt)))
