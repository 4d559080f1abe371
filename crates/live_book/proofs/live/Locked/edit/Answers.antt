use Rattle.std.proofs.Common.{◌≡◌, ◌∙◌, ℕ, ◌≤◌, List, length, sym, ap, subst, arith}
use mathlib.Core.List.{IsPrefix}
use Rattle.version_steps.specs.edit_rules.declared.acts.Entry.{Entry}
use Rattle.version_gate.specs.declared.entry.Entry.{Entry as Numbered}
use Rattle.version_gate.specs.Lists.{Numbered as IsNumbered}
use Rattle.version_gate.proofs.Numbers.{numbered_once}
use Rattle.live_book.specs.declared.published.Published.{Published}
use Rattle.live_book.specs.Kept.{BookParts}
use Rattle.live_book.specs.Commits.{entry_of}
use Rattle.live_book.specs.Inner.Inverses.{numbered}
use Rattle.live_book.specs.Live.{HasGrown}
use Rattle.live_book.specs.Inner.Live.{accepted_behind}
use Rattle.live_book.proofs.Ahead.{begins_on}
use Rattle.live_book.proofs.Lists.{learnt_whole}
use Rattle.live_book.proofs.Living.{grows, edits_kept, edits_live, longer_behind}
use Rattle.live_book.proofs.live.Locked.edit.Goals as goal

pub commit_drafted-result-requires-clause-gate : goal.commit_drafted-result-requires-clause-gate
commit_drafted-result-requires-clause-gate g c = c.requires.gate ∙ sym c.self.invariant.gate

pub commit_drafted-result-requires-clause-seen : goal.commit_drafted-result-requires-clause-seen
commit_drafted-result-requires-clause-seen g c = λ k is.
    let kept : c.self.inside.book.history ≡ c.args.self.now.history = ap (λ (b : BookParts g.row.D.Denot). b.history) c.self.view_is in
    subst (λ (h : List Entry). k ≤ length h) (sym kept) (c.requires.seen k is)

pub invariant_of-self : goal.invariant_of-self
invariant_of-self g c =
    let one = c.self.inside in
    let two : BookParts g.row.D.Denot = c.commit_drafted-result.new.book in
    let is = grows g.D.Disk.may_leave g.D.Disk.faults g.D.Disk.moment g.D.Disk.left_since g.K.Opening.opened one.accepted.total one.refused.total one.book two
    (entry_of c.args.session c.args.line c.args.act.now) (numbered c.commit_drafted-result.result) c.self.invariant c.commit_drafted-result.ensures.commits in
    subst (λ (b : BookParts g.row.D.Denot). HasGrown g.D.Disk.may_leave g.D.Disk.faults g.K.Opening.opened c.count.new.accepted.total c.count.new.refused.total b) (sym c.tell.ensures.same)
    (subst (λ (n : ℕ). HasGrown g.D.Disk.may_leave g.D.Disk.faults g.K.Opening.opened n c.count.new.refused.total two) (sym c.count.ensures.accepted)
    (subst (λ (n : ℕ). HasGrown g.D.Disk.may_leave g.D.Disk.faults g.K.Opening.opened (accepted_behind one.accepted.total (numbered c.commit_drafted-result.result)) n two) (sym c.count.ensures.refused) is))

pub returns-clause-edits : goal.returns-clause-edits
returns-clause-edits g c =
    let one = c.self.inside in
    let two : BookParts g.row.D.Denot = c.commit_drafted-result.new.book in
    let mid : List (Numbered Published) = c.commit_drafted-result.new.pass.list in
    let next : Entry = entry_of c.args.session c.args.line c.args.act.now in
    let listed : c.tell.result.list ≡ two.list = ap (λ f. f.list) c.tell.ensures.note in
    let kept : one.book.history ≡ c.args.self.now.history = ap (λ (b : BookParts g.row.D.Denot). b.history) c.self.view_is in
    let own : (k : ℕ) → IsNumbered k c.args.pass.now.list → k ≤ length one.book.history = λ k is. subst (λ (h : List Entry). k ≤ length h) (sym kept) (c.requires.seen k is) in
    let low : length one.book.history ≤ length two.history = longer_behind g.D.Disk.may_leave g.D.Disk.faults g.D.Disk.moment g.D.Disk.left_since one.book two next (numbered c.commit_drafted-result.result) c.commit_drafted-result.ensures.commits in
    let told : IsNumbered (length one.book.history) mid = subst (λ (l : List (Numbered Published)). IsNumbered (length one.book.history) l) (sym c.commit_drafted-result.ensures.whole) c.commit_drafted-result.ensures.number in
    let first : c.seen-seen.result ≡ length one.book.history = numbered_once c.seen-seen.result (length one.book.history) mid c.seen-seen.ensures told in
    let whole : c.learn.new.self.list ≡ c.tell.result.list =
    learnt_whole c.seen-seen.result (length two.history) mid c.tell.result.list c.learn.new.self.list c.seen-seen.ensures
    (subst (λ (l : List (Numbered Published)). IsNumbered (length two.history) l) (sym listed) c.tell.ensures.number)
    (omega (arith, first, low)) c.learn.ensures.own c.learn.ensures.learnt c.learn.ensures.longer in
    let learnt : IsPrefix c.args.pass.now.list c.learn.new.self.list = begins_on c.args.pass.now.list mid c.learn.new.self.list c.commit_drafted-result.ensures.own c.learn.ensures.own in
    edits_kept g.K.Opening.opened next c.args.pass.now.list c.learn.new.self.list c.commit_drafted-result.result one.book.config one.book.history
    (edits_live g.D.Disk.may_leave g.D.Disk.faults g.D.Disk.moment g.D.Disk.left_since g.K.Opening.opened one.accepted.total one.refused.total one.book two next (numbered c.commit_drafted-result.result) c.self.invariant c.commit_drafted-result.ensures.commits
    c.args.pass.now.list c.learn.new.self.list own learnt (whole ∙ listed) c.tell.ensures.shown)
    c.self.invariant.config c.commit_drafted-result.ensures.inverse
