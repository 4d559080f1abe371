use Rattle.std.proofs.Common.{◌≡◌, ℕ, List, length, sym, ap, subst, ◌∙◌}
use Rattle.std.proofs.lemmas.List.{length-map}
use Rattle.live_seats.specs.session_core.Worlds.{Each}
use Rattle.live_seats.specs.Inner.Seats.{IsAsked}
use Rattle.live_run.proofs.Rooming.{asked_from}
use Rattle.live_run.proofs.run.run_named.Goals as goal

pub run_in-requires-clause-asked : goal.run_in-requires-clause-asked
run_in-requires-clause-asked g c =
    let cells : length c.args.orders.cells.now ≡ length g.K.Row.cells =
    sym (length-map c.args.orders.cells.now (λ c. c.id)) ∙ ap (λ (xs : List ℕ). length xs) c.requires.cells in
    let asked : Each (IsAsked (length g.K.Row.cells)) c.args.orders.lines.now =
    subst (λ (n : ℕ). Each (IsAsked n) c.args.orders.lines.now) cells
    (asked_from (length c.args.orders.cells.now) _ c.args.orders.lines.now c.requires.lines tt c.requires.under) in
    search (asked)
