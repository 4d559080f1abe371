use Rattle.std.proofs.Common.{◌≤◌, length, map, ap, refl, ◌∙◌, arith}
use Rattle.emu_names.specs.declared.limits.TheConstants.{BUNDLE_ITEMS}
use Rattle.bundle_state.specs.Bundle.{BundleParts, item_count}
use Rattle.eql_resolve.specs.Inner.View.{term_in}
use Rattle.level_items.specs.Levels.{items_at}
use Rattle.eql_model.specs.Inner.Meaning.{met_row}
use Rattle.eql_model.proofs.Conditions.{level_few}
use Rattle.eql_columns.proofs.Bits.{all_long}
use Rattle.eql_match.proofs.FoundWhere.{conjunction_tuples, found_exit, found_row}
use Rattle.eql_match.proofs.conjunction.conjunction.Goals as goal

pub found_where-requires : goal.found_where-requires
found_where-requires c =
    let few = level_few c.bundle.result.now.levels c.args.level in
    let all : item_count c.bundle.result.now.levels ≤ BUNDLE_ITEMS = c.item_count-items.ensures.rules.few_items in
    let same = ap (λ (b : BundleParts). length (items_at b.levels c.args.level)) c.bundle.ensures in
    let long = ap length c.in_ok-met.ensures ∙ all_long _ _ in
    omega arith

pub returns-clause-tuples : goal.returns-clause-tuples
returns-clause-tuples c =
    let b = c.args.indexed.now.bundle in
    let rows = map (λ t. met_row c.args.config.now b c.args.level (term_in t)) c.args.terms.now in
    conjunction_tuples c.args.config.now b c.args.level term_in c.args.terms.now rows (items_at b.levels c.args.level) c.args.marked
    c.found_where.result refl refl c.requires.marked
    (found_exit c.args.marked rows c.in_ok-met.met _ (items_at b.levels c.args.level) c.found_where.result c.in_ok-met.ensures refl
    c.found_where.ensures.tuples)

pub returns-clause-row : goal.returns-clause-row
returns-clause-row c =
    found_row c.args.marked c.in_ok-met.met _ c.found_where.result (ap length c.in_ok-met.ensures ∙ all_long _ _) c.found_where.ensures.row
