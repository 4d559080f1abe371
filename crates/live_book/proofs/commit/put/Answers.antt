use Rattle.std.proofs.Common.{◌≡◌, ◌∙◌, ℕ, List, [], ◌∷◌, ◌++◌, length, Option, sym, ap, subst}
use Rattle.std.specs.Arc.{arc_value}
use Rattle.db_config.specs.declared.parts.ConfigParts.{ConfigParts}
use Rattle.version_steps.specs.edit_rules.declared.acts.Entry.{Entry}
use Rattle.edit_journal.specs.declared.journal.Journal.{Journal}
use Rattle.version_gate.specs.Lists.{entry}
use Rattle.live_book.specs.declared.published.Published.{Published}
use Rattle.live_book.specs.Kept.{IsAsBefore}
use Rattle.live_book.specs.Inner.Kept.{IsBookOf, book_of, config_in, since_behind}
use Rattle.live_book.specs.Inner.Prepared.{MayFollowIn}
use Rattle.live_book.proofs.Committing.{follows_in, book_err, book_ok}
use Rattle.live_book.proofs.Answering.{refusal_commits, same_history, accepted_commits}
use Rattle.live_book.proofs.commit.put.Goals as goal

pub returns-in-Err-clause-book : goal.returns-in-Err-clause-book
returns-in-Err-clause-book g c =
    let p = c.args.parts.now in
    let follows : MayFollowIn p.journal (config_in p) p.entries c.args.ready.entry = follows_in (config_in p) p.entries p.journal c.args.ready c.requires.welcome.room c.requires.ready in
    let before : IsAsBefore g.D.Disk.may_leave (config_in p) p.entries c.requires.book.held.0 c.args.ready.entry c.enter.new.journal =
    c.in-Err.ensures.err (config_in p) p.entries c.requires.book.held.0 c.requires.book.held.1 follows in
    book_err g.D.Disk.may_leave (config_in p) (arc_value p.current) p.entries p.opened p.since p.publisher p.journal c.enter.new.journal c.requires.book c.enter.new.entries c.in-Err.ensures.entries (before.left, before.keeps)

pub returns-in-Err-clause-commits : goal.returns-in-Err-clause-commits
returns-in-Err-clause-commits g c =
    let p = c.args.parts.now in
    let follows : MayFollowIn p.journal (config_in p) p.entries c.args.ready.entry = follows_in (config_in p) p.entries p.journal c.args.ready c.requires.welcome.room c.requires.ready in
    same_history g.D.Disk.may_leave g.D.Disk.moment g.D.Disk.left_since g.D.Disk.faults (book_of p) c.args.ready.entry c.enter.new.journal c.in-Err.fault c.enter.new.entries c.in-Err.ensures.entries
    (refusal_commits g.D.Disk.may_leave g.D.Disk.moment g.D.Disk.left_since g.D.Disk.faults (book_of p) c.args.ready.entry c.enter.new.journal c.in-Err.fault c.in-Err.ensures.no_other c.requires.welcome follows
    c.in-Err.ensures.err c.in-Err.ensures.still c.in-Err.ensures.any_moment c.in-Err.ensures.later c.in-Err.ensures.disk c.in-Err.ensures.only c.in-Err.ensures.stored)

pub returns-in-Ok-clause-book : goal.returns-in-Ok-clause-book
returns-in-Ok-clause-book g c =
    let p = c.args.parts.now in
    let new = c.show.new.parts in
    let follows : MayFollowIn p.journal (config_in p) p.entries c.args.ready.entry = follows_in (config_in p) p.entries p.journal c.args.ready c.requires.welcome.room c.requires.ready in
    let same : arc_value new.current ≡ arc_value c.args.ready.next = ap arc_value c.show.ensures.current ∙ c.requires.ready.same in
    let pushed : new.entries ≡ p.entries ++ c.args.ready.entry ∷ [] = c.show.ensures.entries ∙ c.in-Ok.ensures.entries in
    let number : new.publisher.number ≡ length new.entries = c.show.ensures.number ∙ ap (λ (l : List Entry). length l) (sym c.show.ensures.entries) in
    let list : new.publisher.list ≡ p.publisher.list ++ entry (length new.entries) (arc_value c.args.ready.next) ∷ [] =
    c.show.ensures.list ∙ ap (λ (l : List Entry). p.publisher.list ++ entry (length l) (arc_value c.args.ready.next) ∷ []) (sym c.show.ensures.entries) in
    let since : new.since ≡ since_behind c.args.ready.entry.act p.since (length p.entries) =
    c.show.ensures.since ∙ c.since_behind-since.ensures ∙ ap (since_behind c.args.ready.entry.act p.since) c.len-count.ensures in
    subst (λ (own : ConfigParts). IsBookOf g.D.Disk.may_leave own (arc_value new.current) new.entries new.opened new.since new.publisher new.journal) (sym c.show.ensures.opening)
    (subst (λ (j : Option (Journal g.row.D.Denot)). IsBookOf g.D.Disk.may_leave (config_in p) (arc_value new.current) new.entries new.opened new.since new.publisher j) (sym c.show.ensures.journal)
    (subst (λ (o : ℕ). IsBookOf g.D.Disk.may_leave (config_in p) (arc_value new.current) new.entries o new.since new.publisher c.enter.new.journal) (sym c.show.ensures.opened)
    (book_ok g.D.Disk.may_leave (config_in p) (arc_value p.current) p.entries p.opened p.since p.publisher p.journal c.enter.new.journal c.requires.book c.args.ready (arc_value new.current) new.entries new.since new.publisher c.requires.ready c.requires.welcome.room same pushed since number list
    (c.in-Ok.ensures.ok (config_in p) p.entries c.requires.book.held.0 c.requires.book.held.1 follows))))

pub returns-in-Ok-clause-commits : goal.returns-in-Ok-clause-commits
returns-in-Ok-clause-commits g c =
    let p = c.args.parts.now in
    let new = c.show.new.parts in
    let follows : MayFollowIn p.journal (config_in p) p.entries c.args.ready.entry = follows_in (config_in p) p.entries p.journal c.args.ready c.requires.welcome.room c.requires.ready in
    let same : arc_value new.current ≡ arc_value c.args.ready.next = ap arc_value c.show.ensures.current ∙ c.requires.ready.same in
    let pushed : new.entries ≡ p.entries ++ c.args.ready.entry ∷ [] = c.show.ensures.entries ∙ c.in-Ok.ensures.entries in
    let list : new.publisher.list ≡ p.publisher.list ++ entry (length new.entries) (arc_value c.args.ready.next) ∷ [] =
    c.show.ensures.list ∙ ap (λ (l : List Entry). p.publisher.list ++ entry (length l) (arc_value c.args.ready.next) ∷ []) (sym c.show.ensures.entries) in
    accepted_commits g.D.Disk.may_leave g.D.Disk.moment g.D.Disk.left_since g.D.Disk.faults (book_of p) c.args.ready.entry c.enter.new.journal c.len.result (arc_value c.args.ready.next) (book_of new)
    c.len.ensures pushed c.show.ensures.opening c.show.ensures.opened c.show.ensures.gate list c.show.ensures.journal
    c.requires.welcome follows c.in-Ok.ensures.ok c.in-Ok.ensures.any_moment c.in-Ok.ensures.later c.in-Ok.ensures.stored
