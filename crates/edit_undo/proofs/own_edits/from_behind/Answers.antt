use Rattle.std.proofs.Common.{rules, ◌≡◌, ◌<◌, Some, arith}
use Rattle.bundle_state.specs.Bundle.{place_of}
use Rattle.edit_undo.proofs.Found.{place_low}
use Rattle.edit_undo.proofs.own_edits.from_behind.Goals as goal

pub overflow_add-position : goal.overflow_add-position
overflow_add-position c =
    let is : place_of c.args.bundle.now.levels c.args.id.0 ≡ Some (c.in-Some.level, c.in-Some.position) = search rules in
    let low : c.in-Some.position < 65536 = place_low c.args.bundle.now c.args.id (c.in-Some.level, c.in-Some.position) c.item_count-rules.ensures.rules is in
    record { fits = omega (arith, low) }
