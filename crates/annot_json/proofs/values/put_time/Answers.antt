use Rattle.annot_json.proofs.Shown.{span_put, point_put}
use Rattle.annot_json.proofs.values.put_time.Goals as goal

pub returns-in_ok-put-in-Span-2 : goal.returns-in_ok-put-in-Span-2
returns-in_ok-put-in-Span-2 c =
    span_put c.args.time c.in-Span.start c.in-Span.dur _ _ _ _ _ c.in-Span.is c.from.ensures c.from-in-Span.ensures
    c.in_ok-put-in-Span.ensures.ok c.in_ok-put-in-Span-2.ensures.ok

pub returns-in_ok-put-in-Point : goal.returns-in_ok-put-in-Point
returns-in_ok-put-in-Point c =
    point_put c.args.time c.in-Point.at _ _ _ c.in-Point.is c.from-in-Point.ensures c.in_ok-put-in-Point.ensures.ok
