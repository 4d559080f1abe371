use Rattle.std.proofs.Common.{rules}
use Rattle.eql_resolve.specs.Inner.View.{query_in}
use Rattle.eql_model.proofs.Shown.{shown_err, shown_at}
use Rattle.eql_model.proofs.answer.match_plain.Goals as goal

pub returns-in-Err-shown_once : goal.returns-in-Err-shown_once
returns-in-Err-shown_once c =
    shown_err c.args.config.now c.args.bundle.now (query_in c.query-query.result.now) c.args.asked.now.query c.is_marked-marked.result
    c.as_slice.result.now c.in-Err-shown_once.fault c.query-query.ensures c.is_marked-marked.ensures
    (search (rules, c.as_slice.ensures, c.found.view_is, c.in-Ok.ensures.0)) c.in-Ok.ensures.1 c.in-Err-shown_once.ensures

pub spans_of-requires : goal.spans_of-requires
spans_of-requires c =
    shown_at c.args.config.now (query_in c.query-query.result.now) c.args.asked.now.query c.shown_place.result c.query-query.ensures
    c.shown_place.ensures c.requires.resolved.within
