-- What may be sent to a thread, and what threads may share.
use denote.RattleType.{RattleType}
use denote.Param.Send.{IsSend, IsSync, sendable, view_send}
use denote.Param.SendFields.{declared_send, declared_sync}
use Rattle.std.proofs.Crossing.{Arc-send}
use Rattle.std.proofs.option.Option.TheSendSync as option
use Rattle.std.proofs.sync.Mutex.TheSendSync as mutex
use Rattle.std.proofs.sync.ledger.Book.TheSendSync as total
use Rattle.emu_names.proofs.shared.Shared.TheSendSync as shared
use Rattle.db_config.proofs.config.Config.TheSendSync as config
use Rattle.edit_journal.specs.contracts.journal.Journal as kept
use Rattle.edit_journal.proofs.journal.Journal.TheSendSync as journal
use Rattle.version_gate.proofs.publisher.Publisher.TheSendSync as publisher
use Rattle.version_steps.proofs.of_edit_rules.Crossings.{entries_send}
use Rattle.version_steps.proofs.last_dropped.Dropped.TheSendSync as dropped
use Rattle.live_book.proofs.published.Published.TheSendSync as published
use Rattle.live_book.specs.contracts.parts.Parts as parts
use Rattle.live_book.specs.contracts.book.Book as book
use Rattle.live_book.specs.contracts.live.Locked as locked
use Rattle.live_book.specs.contracts.live.Live as live

parts_send : (D : RattleType) → IsSend D → IsSend (parts.the_row D)
parts_send D s =
    declared_send (parts.the_type D) (
      search (shared.the_send, config.the_send, config.the_sync, sendable) depth 20,
      (
        search (published.the_send, published.the_sync, Arc-send, sendable) depth 20,
        (
          search (entries_send, sendable) depth 20,
          (
            search sendable depth 20,
            (
              search sendable depth 20,
              (
                search (publisher.the_send, published.the_send, published.the_sync, sendable) depth 20,
                (option.the_send (kept.the_row D) (journal.the_send D s), tt),
              ),
            ),
          ),
        ),
      ),
    )

book_send : (D : RattleType) (d : _) → IsSend D → IsSend (book.the_row D d)
book_send D d s =
    view_send (book.TheInside.the_row D d) _ _ _ _
    (declared_send (book.TheInside.the_type D d) (parts_send D s, (search (dropped.the_send, sendable) depth 20, tt)))

locked_send : (K N D : RattleType) (o : _) (k : _) (n : _) (d : _) → IsSend D → IsSend (locked.the_row K N D o k n d)
locked_send K N D o k n d s =
    view_send (locked.TheInside.the_row K N D o k n d) _ _ _ _
    (declared_send (locked.TheInside.the_type K N D o k n d) (book_send D d s, (total.the_send K k, (total.the_send N n, tt))))

pub live_sync : (K N D : RattleType) (o : _) (k : _) (n : _) (d : _) → IsSend D → IsSync (live.the_row K N D o k n d)
live_sync K N D o k n d s =
    declared_sync (live.the_type K N D o k n d)
    (mutex.the_sync (locked.the_row K N D o k n d) (locked_send K N D o k n d s), tt)
