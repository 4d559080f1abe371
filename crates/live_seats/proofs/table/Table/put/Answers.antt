use Rattle.std.proofs.Common.{ℕ, Some, ◌∙◌, ap, sym}
use Rattle.query_workers.specs.session_core.Steps.{put_slot}
use Rattle.live_seats.specs.Inner.Notes.{Note}
use Rattle.live_seats.proofs.Telling.{table_put, table_still}
use Rattle.live_seats.proofs.table.Table.put.Goals as goal

pub invariant_of-self : goal.invariant_of-self
invariant_of-self g c =
    table_still c.self.inside.told.items c.line.result c.again.result c.self.invariant (ap (λ (n : Note). n.line) c.again.ensures ∙ sym c.line.ensures)

pub returns : goal.returns
returns g c =
    table_put c.self.inside.told.items c.args.self.now c.self.view_is c.line.result c.again.result
    ∙ ap (λ (k : ℕ). put_slot c.args.self.now k (Some c.again.result.noted)) c.line.ensures
    ∙ ap (λ (n : Note). put_slot c.args.self.now c.args.told.now.line (Some n.noted)) c.again.ensures
