use Rattle.std.proofs.Common.{◌≡◌, map, refl, ap, ◌∙◌, rules}
use Rattle.std.specs.Prelude.{is_some}
use Rattle.eql_resolve.proofs.Marks.{mark_some}
use Rattle.eql_resolve.specs.Asked.{shown_place}
use Rattle.eql_resolve.specs.Inner.View.{query_in}
use Rattle.eql_rows.specs.Spans.{span_at}
use Rattle.eql_model.proofs.Shown.{shown_err, shown_at, stretches_are}
use Rattle.eql_match.proofs.Bare.{found_few, found_sorted}
use Rattle.eql_match.proofs.bundle.spans_of_tuples.Goals as goal

pub shown_of-requires-clause-sorted : goal.shown_of-requires-clause-sorted
shown_of-requires-clause-sorted c =
    found_sorted c.args.config.now c.args.indexed.now.bundle (query_in c.args.query.now) c.args.found c.requires.found.0

pub shown_of-requires-clause-room : goal.shown_of-requires-clause-room
shown_of-requires-clause-room c =
    found_few c.args.config.now c.args.indexed.now.bundle (query_in c.args.query.now) c.args.found c.requires.found.0 c.requires.found.1

pub returns-in-Err : goal.returns-in-Err
returns-in-Err c =
    shown_err c.args.config.now c.args.indexed.now.bundle (query_in c.args.query.now) (query_in c.args.query.now)
    c.is_some.result c.args.found c.in-Err.fault refl
    (c.is_some.ensures ∙ ap is_some c.mark_place-mark.ensures ∙ mark_some (query_in c.args.query.now)) c.requires.found.0 c.requires.found.1
    c.in-Err.ensures

pub spans_of-requires : goal.spans_of-requires
spans_of-requires c =
    shown_at c.args.config.now (query_in c.args.query.now) (query_in c.args.query.now) c.place_shown.result refl
    c.place_shown.ensures c.requires.within

pub returns-in-Ok-spans_of : goal.returns-in-Ok-spans_of
returns-in-Ok-spans_of c =
    let own : c.as_slice.result.now ≡ c.in-Ok.stretches = search (rules, c.as_slice.ensures, c.stretches.view_is) in (
      c.in-Ok-spans_of.ensures
          ∙ ap (λ place. map (span_at place) c.as_slice.result.now) c.place_shown.ensures
          ∙ ap (map (span_at (shown_place (query_in c.args.query.now))))
          (own
          ∙ stretches_are c.args.config.now c.args.indexed.now.bundle (query_in c.args.query.now) c.is_some.result c.args.found
          c.in-Ok.stretches (c.is_some.ensures ∙ ap is_some c.mark_place-mark.ensures ∙ mark_some (query_in c.args.query.now))
          c.requires.found.0 c.in-Ok.ensures.0),
      c.requires.found.1,
    )
