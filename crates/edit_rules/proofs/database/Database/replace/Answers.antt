use Rattle.std.proofs.Common.{◌+◌, ◌∙◌, ap, arith}
use Rattle.std.specs.Prelude.{slice_set}
use Rattle.bundle_state.specs.Bundle.{BundleParts}
use Rattle.edit_rules.specs.Database.{DatabaseParts}
use Rattle.edit_rules.proofs.Stays.{set_items, kept_as}
use Rattle.edit_rules.proofs.database.Database.replace.Goals as goal

pub overflow_add-items : goal.overflow_add-items
overflow_add-items c =
    let sum = set_items c.args.self.now.bundles c.args.place c.args.new c.requires.within in
    let few = c.requires.rules.few_items in
    let others = c.items_beside-others.ensures in
    let count = c.item_count.ensures.count in
    omega arith

pub invariant_of-self-2 : goal.invariant_of-self-2
invariant_of-self-2 c =
    let sum = set_items c.args.self.now.bundles c.args.place c.args.new c.requires.within in
    let others = c.items_beside-others.ensures in
    let count = c.item_count.ensures.count in
    kept_as c.self.inside.config c.args.self.now.config c.set.new.self (slice_set c.args.self.now.bundles c.args.place c.args.new) (c.items_beside-others.result + c.item_count.result)
    (ap (λ (d : DatabaseParts). d.config) c.self.view_is)
    (c.in_ok-set.ensures.ok ∙ ap (λ (d : DatabaseParts). slice_set d.bundles c.args.place c.in_ok-new.new) c.self.view_is
    ∙ ap (λ (b : BundleParts). slice_set c.args.self.now.bundles c.args.place b) c.in_ok-new.ensures)
    (omega arith) c.requires.rules
