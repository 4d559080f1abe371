use Rattle.std.proofs.Common.{length, subst}
use mathlib.Core.List.{IsPrefix}
use Rattle.version_gate.specs.Lists.{Front}
use Rattle.live_seats.specs.live_book.declared.published.Published.{Published}
use Rattle.live_run.proofs.Rooming.{seen_more}
use Rattle.live_run.proofs.places.teach.Goals as goal

pub returns-clause-seen : goal.returns-clause-seen
returns-clause-seen g c =
    let begins : IsPrefix c.args.book.now.list c.learn.new.self.list =
    subst (λ (f : Front Published). IsPrefix f.list c.learn.new.self.list) c.tell.ensures.note c.learn.ensures.learnt in (
      c.seen.result,
      c.seen.ensures,
      seen_more (length c.args.book.now.history) c.seen.result c.args.book.now.list c.learn.new.self.list
          c.tell.ensures.number c.seen.ensures begins,
    )
