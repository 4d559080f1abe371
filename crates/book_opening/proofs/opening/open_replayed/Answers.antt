use Rattle.book_opening.proofs.Stores.{history_book}
use Rattle.book_opening.proofs.opening.open_replayed.Goals as goal

pub of-book-requires : goal.of-book-requires
of-book-requires g c =
    history_book g.D.Disk.may_leave c.requires.kept.0 c.args.replayed c.args.journal _ _ c.args.readers c.in-Ok.shown c.requires.kept.1 c.requires.kept.2
    c.in-Ok.ensures c.len.ensures c.len-opened.ensures
