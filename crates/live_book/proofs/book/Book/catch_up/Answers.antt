use Rattle.std.proofs.Common.{◌<◌, ℕ, length, subst}
use Rattle.live_book.specs.Kept.{BookParts}
use Rattle.live_book.proofs.book.Book.catch_up.Goals as goal

pub returns-clause-passed : goal.returns-clause-passed
returns-clause-passed g c = λ passed k numbered.
    subst (λ (b : BookParts g.row.D.Denot). length b.history < k) c.self.view_is
    (subst (λ (n : ℕ). n < k) c.self.invariant.number (c.catch_up.ensures.passed passed k numbered))
