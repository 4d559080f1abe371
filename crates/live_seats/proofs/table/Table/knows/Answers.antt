use Rattle.std.proofs.Common.{◌<◌, ℕ, Option, Some, ◌∙◌, ap, length, subst, sym}
use Rattle.std.specs.Option.{option_map}
use Rattle.query_workers.specs.session_core.Steps.{slot}
use Rattle.live_seats.specs.Inner.Notes.{Note, noted_of}
use Rattle.live_seats.proofs.Telling.{table_line, table_slot}
use Rattle.live_seats.proofs.table.Table.knows.Goals as goal

pub agree-requires : goal.agree-requires
agree-requires g c =
    table_line c.self.inside.told.items c.args.self.now c.self.view_is c.line.result c.index.result.now
    (subst (λ (k : ℕ). k < length c.args.self.now) (sym c.line.ensures) c.requires) c.index.ensures c.in-Some.there c.self.invariant c.in-Some.is ∙ c.line.ensures

pub returns-in-Some-clause-known : goal.returns-in-Some-clause-known
returns-in-Some-clause-known g c = λ yes.
    ap (λ (k : ℕ). slot c.args.self.now k) (sym c.line.ensures)
    ∙ table_slot c.self.inside.told.items c.args.self.now c.self.view_is c.line.result c.index.result.now
    (subst (λ (k : ℕ). k < length c.args.self.now) (sym c.line.ensures) c.requires) c.index.ensures
    ∙ ap (λ (o : Option Note). option_map noted_of o) c.in-Some.is ∙ ap (λ (n : ℕ). Some n) c.agree.ensures

pub returns-in-None-clause-unknown : goal.returns-in-None-clause-unknown
returns-in-None-clause-unknown g c = λ not_there.
    ap (λ (k : ℕ). slot c.args.self.now k) (sym c.line.ensures)
    ∙ table_slot c.self.inside.told.items c.args.self.now c.self.view_is c.line.result c.index.result.now
    (subst (λ (k : ℕ). k < length c.args.self.now) (sym c.line.ensures) c.requires) c.index.ensures
    ∙ ap (λ (o : Option Note). option_map noted_of o) c.in-None.is
