use Rattle.eql_model.proofs.Extents.{ends_rise, ends_within, extent_answer, extent_none, span_fits_rows}
use Rattle.eql_model.proofs.times.extent_below.Goals as goal

pub ends_under-requires : goal.ends_under-requires
ends_under-requires c =
    span_fits_rows c.args.bundle.now c.args.span c.args.below.now.time c.args.below.now.rows.now c.requires.span c.requires.below.rows

pub ends_between-requires-clause-order : goal.ends_between-requires-clause-order
ends_between-requires-clause-order c =
    ends_rise c.args.bundle.now c.args.span c.args.below.now.time c.timed_items-items.result.now c.args.below.now.rows.now
    c.requires.span c.timed_items-items.ensures.items c.requires.below.rows c.in-Some.first c.in-Some.last c.in-Some.ensures

pub ends_between-requires-clause-within : goal.ends_between-requires-clause-within
ends_between-requires-clause-within c =
    ends_within c.args.bundle.now c.args.span c.args.below.now.time c.timed_items-items.result.now c.args.below.now.rows.now
    c.requires.span c.timed_items-items.ensures.items c.requires.below.rows c.in-Some.first c.in-Some.last c.in-Some.ensures

pub returns-in-Some-clause-extent : goal.returns-in-Some-clause-extent
returns-in-Some-clause-extent c =
    extent_answer c.args.bundle.now c.args.span c.args.below.now.time c.timed_items-items.result.now c.args.below.now.rows.now
    c.requires.span c.timed_items-items.ensures.items c.requires.below.rows c.in-Some.first c.in-Some.last
    c.ends_between.result c.timed_items-items.ensures.starts c.timed_items-items.ensures.ends c.in-Some.ensures
    c.ends_between.ensures.ends

pub returns-in-None-clause-extent : goal.returns-in-None-clause-extent
returns-in-None-clause-extent c =
    extent_none c.args.bundle.now c.args.span c.args.below.now.time c.timed_items-items.result.now c.args.below.now.rows.now
    c.requires.span c.timed_items-items.ensures.items c.requires.below.rows c.in-None.ensures
