use Rattle.std.proofs.Common.{subst}
use Rattle.std.specs.Arc.{arc_value}
use Rattle.version_steps.specs.version_tree.Version.{state_of}
use Rattle.live_book.specs.Histories.{IsHistory}
use Rattle.live_book.specs.Kept.{BookParts}
use Rattle.live_book.proofs.book.Book.history.Goals as goal

pub returns-clause-legal : goal.returns-clause-legal
returns-clause-legal g c =
    subst (λ (b : BookParts g.row.D.Denot). IsHistory b.config b.history) c.self.view_is
    (record { legal = (state_of (arc_value c.self.inside.parts.current).version, c.self.invariant.state.state); few = c.self.invariant.few })
