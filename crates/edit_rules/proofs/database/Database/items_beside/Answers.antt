use Rattle.std.proofs.Common.{◌≡◌, ◌+◌, ap, arith}
use Rattle.std.specs.List.{remove}
use Rattle.bundle_state.specs.Bundle.{item_count}
use Rattle.edit_rules.specs.Database.{DatabaseParts, all_items}
use Rattle.edit_rules.proofs.Stays.{removed_items}
use Rattle.edit_rules.proofs.database.Database.items_beside.Goals as goal

pub overflow_sub-result : goal.overflow_sub-result
overflow_sub-result c =
    let sum : all_items (remove c.args.self.now.bundles c.args.place) + item_count c.at.result.now.levels ≡ all_items c.args.self.now.bundles =
    removed_items c.args.self.now.bundles c.args.place c.at.result.now c.at.ensures in
    let items = c.self.invariant.count in
    let view : all_items c.self.inside.list ≡ all_items c.args.self.now.bundles = ap (λ (d : DatabaseParts). all_items d.bundles) c.self.view_is in
    let count = c.item_count.ensures.count in
    omega arith

pub returns : goal.returns
returns c =
    let sum : all_items (remove c.args.self.now.bundles c.args.place) + item_count c.at.result.now.levels ≡ all_items c.args.self.now.bundles =
    removed_items c.args.self.now.bundles c.args.place c.at.result.now c.at.ensures in
    let items = c.self.invariant.count in
    let view : all_items c.self.inside.list ≡ all_items c.args.self.now.bundles = ap (λ (d : DatabaseParts). all_items d.bundles) c.self.view_is in
    let count = c.item_count.ensures.count in
    omega arith
