use Rattle.std.proofs.Common.{◌≤◌, length, ap, arith, rules}
use Rattle.bundle_state.specs.Bundle.{item_count}
use Rattle.emu_names.specs.declared.limits.TheConstants.{BUNDLE_ITEMS}
use Rattle.eql_resolve.specs.Inner.View.{term_in}
use Rattle.eql_model.proofs.Conditions.{level_few, conjunction_exit}
use Rattle.eql_model.proofs.conjunction.conjunction.Goals as goal

pub singles_where-requires : goal.singles_where-requires
singles_where-requires c =
    let few = level_few c.args.bundle.now.levels c.args.level in
    let all : item_count c.args.bundle.now.levels ≤ BUNDLE_ITEMS = c.item_count-items.ensures.rules.few_items in
    let same = ap length c.items_at-count.ensures in
    omega arith

pub returns : goal.returns
returns c =
    conjunction_exit c.args.config.now c.args.bundle.now c.args.level term_in c.args.terms.now c.as_slice.result.now
    c.items_at-count.result.now c.args.marked c.singles_where.result
    (search (rules, c.as_slice.ensures, c.rows.view_is, c.in_ok-rows.ensures)) c.items_at-count.ensures c.requires.marked
    c.singles_where.ensures
