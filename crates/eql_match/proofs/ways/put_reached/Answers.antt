use Rattle.std.proofs.Common.{◌≡◌, List, true, subst}
use Rattle.std.specs.Prelude.{OnOk}
use Rattle.eql_tuples.specs.declared.tuple.Tuple.{Tuple}
use Rattle.eql_tuples.specs.Sets.{put_all, is_over}
use Rattle.eql_match.proofs.Near.{near_others, pairs_near}
use Rattle.eql_match.proofs.ways.put_reached.Goals as goal

pub put_each-requires-clause-others : goal.put_each-requires-clause-others
put_each-requires-clause-others c =
    near_others c.args.way.now c.reach.result c.args.others.now c.begun_within-near.result.now c.requires.others c.begun_within-near.ensures

pub returns-clause-ok : goal.returns-clause-ok
returns-clause-ok c =
    subst (λ (ps : List Tuple). OnOk c.put_each.result (c.put_each.new.gathered ≡ put_all c.args.gathered.now ps))
    (pairs_near c.args.way.now c.args.one c.reach.result c.args.others.now c.begun_within-near.result.now c.reach.ensures c.requires.others
    c.begun_within-near.ensures)
    c.put_each.ensures.ok

pub returns-clause-over : goal.returns-clause-over
returns-clause-over c = λ told.
    subst (λ (ps : List Tuple). is_over (put_all c.args.gathered.now ps) ≡ true)
    (pairs_near c.args.way.now c.args.one c.reach.result c.args.others.now c.begun_within-near.result.now c.reach.ensures c.requires.others
    c.begun_within-near.ensures)
    (c.put_each.ensures.over told)
