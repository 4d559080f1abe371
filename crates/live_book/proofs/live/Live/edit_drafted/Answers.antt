use Rattle.std.proofs.Common.{rules, ◌≡◌, List, length, ap, arith}
use Rattle.version_steps.specs.edit_rules.declared.acts.Entry.{Entry}
use Rattle.version_gate.proofs.Numbers.{numbered_once}
use Rattle.live_book.proofs.live.Live.edit_drafted.Goals as goal

pub edit-result-requires-clause-seen : goal.edit-result-requires-clause-seen
edit-result-requires-clause-seen g c = λ k is.
    let once : k ≡ c.seen.result = numbered_once k c.seen.result c.loop.pass.list is c.seen.ensures in
    let same : c.behind-guard.inside.book.history ≡ c.deref_mut.result.now.history = search rules in
    let long = ap (λ (h : List Entry). length h) same in
    omega (arith, once, c.if-seen-number.true, c.number.ensures, long)
