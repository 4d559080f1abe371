use Rattle.std.proofs.Common.{◌≡◌, ◌∙◌, List, length, sym, ap, subst}
use Rattle.version_gate.specs.declared.entry.Entry.{Entry as Numbered}
use Rattle.version_gate.specs.Lists.{Numbered as IsNumbered}
use Rattle.live_book.specs.declared.published.Published.{Published}
use Rattle.live_book.proofs.Lists.{learnt_whole}
use Rattle.live_book.proofs.live.learn_all.Goals as goal

pub returns-clause-whole : goal.returns-clause-whole
returns-clause-whole g c =
    let book = c.args.book.now in
    let listed : c.tell.result.list ≡ book.list = ap (λ f. f.list) c.tell.ensures.note in
    let whole : c.learn.new.self.list ≡ c.tell.result.list =
    learnt_whole c.seen-seen.result (length book.history) c.args.pass.now.list c.tell.result.list c.learn.new.self.list c.seen-seen.ensures
    (subst (λ (l : List (Numbered Published)). IsNumbered (length book.history) l) (sym listed) c.tell.ensures.number)
    (c.requires.seen c.seen-seen.result c.seen-seen.ensures) c.learn.ensures.own c.learn.ensures.learnt c.learn.ensures.longer in
    whole ∙ listed
