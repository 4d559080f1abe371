use Rattle.std.proofs.Common.{length, ap, sym, ◌∙◌, arith}
use Rattle.std.specs.Prelude.{not}
use Rattle.std.proofs.lemmas.Bool.{eqb-true}
use Rattle.std.proofs.lemmas.List.{length-map}
use Rattle.bundle_state.specs.Bundle.{BundleParts}
use Rattle.eql_resolve.specs.Inner.View.{term_in}
use Rattle.eql_model.specs.Meaning.{meets}
use Rattle.level_items.specs.Levels.{items_at}
use Rattle.eql_model.specs.Inner.Meaning.{met_row}
use Rattle.eql_columns.proofs.Bits.{all_long}
use Rattle.eql_columns.proofs.Tests.{met_first, met_more, met_none, met_nowhere, no_first, some_terms}
use Rattle.eql_columns.proofs.conditions.all_met.Goals as goal

pub returns-then-is_empty : goal.returns-then-is_empty
returns-then-is_empty c =
    met_none (λ t. met_row c.args.config.now c.args.indexed.now.bundle c.args.level (term_in t)) c.args.terms.now _
    (length (items_at c.args.indexed.now.bundle.levels c.args.level)) c.all_set.result
    (eqb-true (length c.args.terms.now) 0 (sym c.is_empty.ensures ∙ c.if-is_empty.true))
    (ap length (c.items_at.ensures ∙ ap (λ (b : BundleParts). items_at b.levels c.args.level) c.bundle.ensures)) c.all_set.ensures

pub loop-at-init : goal.loop-at-init
loop-at-init c =
    met_first (λ t. met_row c.args.config.now c.args.indexed.now.bundle c.args.level (term_in t)) c.args.terms.now
    (length (items_at c.args.indexed.now.bundle.levels c.args.level)) c.index-terms-0.result c.in_ok-met.met
    (some_terms (length c.args.terms.now) (sym c.is_empty.ensures ∙ c.if-is_empty.false)) c.index-terms-0.is c.in_ok-met.ensures
    (length-map (items_at c.args.indexed.now.bundle.levels c.args.level)
    (meets c.args.config.now c.args.indexed.now.bundle (term_in c.index-terms-0.result)))

pub returns-then-is_none : goal.returns-then-is_none
returns-then-is_none c =
    met_nowhere (λ t. met_row c.args.config.now c.args.indexed.now.bundle c.args.level (term_in t)) c.args.terms.now
    (length (items_at c.args.indexed.now.bundle.levels c.args.level)) c.loop-at.at c.loop-at.met c.loop-at.invariant
    (no_first c.loop-at.met c.first.result c.first.ensures (c.is_none.ensures ∙ ap not c.if-is_none.true))

pub clear_others-requires-clause-long : goal.clear_others-requires-clause-long
clear_others-requires-clause-long c = ap length c.loop-at.invariant ∙ all_long _ _

pub loop-at-preserved : goal.loop-at-preserved
loop-at-preserved c =
    met_more (λ t. met_row c.args.config.now c.args.indexed.now.bundle c.args.level (term_in t)) c.args.terms.now
    (length (items_at c.args.indexed.now.bundle.levels c.args.level)) c.loop-at.at c.index-terms-at.result c.loop-at.met
    c.clear_others.new.met c.loop-at.invariant (omega arith) c.index-terms-at.is
    (length-map (items_at c.args.indexed.now.bundle.levels c.args.level)
    (meets c.args.config.now c.args.indexed.now.bundle (term_in c.index-terms-at.result)))
    c.in_ok-clear_others.ensures
