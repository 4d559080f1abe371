use Rattle.std.proofs.Common.{sym, ◌∙◌, subst}
use Rattle.emu_names.specs.Inner.Gives.{FindsFault}
use Rattle.level_items.specs.Faults.{behind_fault}
use Rattle.level_items.proofs.Rules.{last_at}
use Rattle.level_items.proofs.places.behind_passes.Goals as goal

pub returns-in-Some : goal.returns-in-Some
returns-in-Some c =
    let last = c.in-Some.ensures.value ∙ sym (last_at c.args.before.now) in
    subst (λ previous. FindsFault c.order_passes.result (behind_fault c.args.kind previous c.args.time)) last c.order_passes.ensures
