use Rattle.std.proofs.Common.{ℕ, List, Option, subst, sym}
use Rattle.live_seats.specs.Inner.Notes.{IsTold}
use Rattle.live_seats.specs.Inner.Tables.{KeepsTelling}
use Rattle.live_seats.proofs.Telling.{keeps_put, told_put}
use Rattle.live_seats.proofs.table.Table.add.Goals as goal

pub returns-then-not-knows-clause-told : goal.returns-then-not-knows-clause-told
returns-then-not-knows-clause-told g c =
    subst (λ (l : List (Option ℕ)). IsTold l c.args.told.now) (sym c.put.ensures) (told_put c.args.self.now c.args.told.now c.requires)

pub returns-then-not-knows-clause-keeps : goal.returns-then-not-knows-clause-keeps
returns-then-not-knows-clause-keeps g c =
    subst (λ (l : List (Option ℕ)). KeepsTelling c.args.self.now l) (sym c.put.ensures) (keeps_put c.args.self.now c.args.told.now (c.knows.ensures.unknown c.if-not-knows.true))
