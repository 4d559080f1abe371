use Rattle.std.proofs.Common.{◌≡◌, ℕ, length, rules, subst, sym}
use Rattle.live_seats.specs.session_core.Worlds.{Each}
use Rattle.live_run.specs.Inner.Running.{IsUnder}
use Rattle.live_run.proofs.Rooming.{each_from}
use Rattle.live_run.proofs.run.run_live.Goals as goal

pub run_named-requires-clause-under : goal.run_named-requires-clause-under
run_named-requires-clause-under g c =
    let under : Each (IsUnder c.count_cells.result) c.args.lines.now =
    each_from (IsUnder c.count_cells.result) c.args.lines.now c.count_cells.ensures in
    let cells : length c.as_slice.result.now ≡ c.count_cells.result = search rules in
    let under_all : Each (IsUnder (length c.as_slice.result.now)) c.args.lines.now =
    subst (λ (n : ℕ). Each (IsUnder n) c.args.lines.now) (sym cells) under in
    search (under_all)
