use Rattle.std.proofs.Common.{◌∙◌, length, subst, refl}
use Rattle.bundle_state.specs.Valid.{KeepsBundleRules}
use Rattle.eql_resolve.specs.Asked.{level_of}
use Rattle.eql_resolve.specs.Inner.View.{query_in}
use Rattle.eql_model.proofs.Shown.{shown_at}
use Rattle.eql_match.proofs.ItemsShown.{first_shown, items_match}
use Rattle.eql_match.proofs.RowsBetween.{row_few}
use Rattle.eql_match.proofs.bundle.spans_of_items.Goals as goal

pub spans_of_row-requires-clause-place : goal.spans_of_row-requires-clause-place
spans_of_row-requires-clause-place c =
    shown_at c.args.config.now (query_in c.args.query.now) (query_in c.args.query.now) c.first_place.result refl
    (c.first_place.ensures ∙ first_shown (query_in c.args.query.now) c.requires.found.2.1) c.requires.within

pub spans_of_row-requires-clause-few : goal.spans_of_row-requires-clause-few
spans_of_row-requires-clause-few c =
    row_few c.args.indexed.now.bundle (level_of (query_in c.args.query.now)) (length c.args.found.now)
    (subst KeepsBundleRules c.bundle.ensures c.item_count-items.ensures.rules) c.requires.found.2.0

pub returns-in-Ok : goal.returns-in-Ok
returns-in-Ok c =
    items_match c.args.config.now c.args.indexed.now.bundle (query_in c.args.query.now) c.first_place.result c.args.found.now c.in-Ok.spans
    (c.first_place.ensures ∙ first_shown (query_in c.args.query.now) c.requires.found.2.1) c.requires.found c.in-Ok.ensures
