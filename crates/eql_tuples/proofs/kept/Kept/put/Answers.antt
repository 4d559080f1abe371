use Rattle.std.proofs.Common.{◌≡◌, rules}
use Rattle.std.specs.declared.cmp.Ordering.TheVariants.{Equal, Greater}
use Rattle.eql_tuples.specs.Inner.Kept.{order_behind}
use Rattle.eql_tuples.proofs.Rising.{pushed_ok, pushed_order, there_already, put_between}
use Rattle.eql_tuples.proofs.kept.Kept.put.Goals as goal

pub returns-in-Greater-clause-ok : goal.returns-in-Greater-clause-ok
returns-in-Greater-clause-ok c =
    let behind : order_behind c.args.tuple Greater c.in-Rising.list ≡ Greater = cc in
    pushed_ok c.push.result c.args.self.now c.in-Rising.list c.push.new.self c.args.tuple c.in-Rising.is c.requires.order behind
    c.push.ensures.ok

pub returns-in-Greater-clause-order : goal.returns-in-Greater-clause-order
returns-in-Greater-clause-order c =
    let behind : order_behind c.args.tuple Greater c.in-Rising.list ≡ Greater = cc in
    pushed_order c.push.result c.args.self.now c.in-Rising.list c.push.new.self c.args.tuple c.in-Rising.is c.requires.order behind
    c.push.ensures.ok c.push.ensures.err

pub returns-in-Equal-clause-ok : goal.returns-in-Equal-clause-ok
returns-in-Equal-clause-ok c =
    let behind : order_behind c.args.tuple Greater c.in-Rising.list ≡ Equal = cc in
    there_already c.args.self.now c.in-Rising.list c.args.tuple c.in-Rising.is c.requires.order behind

pub returns-in_ok-insert-in-Less-clause-ok : goal.returns-in_ok-insert-in-Less-clause-ok
returns-in_ok-insert-in-Less-clause-ok c =
    put_between c.args.self.now c.in-Rising.list c.in_ok-set-in-Less.set.keys c.insert.new.self.keys c.args.tuple c.in-Rising.is
    c.requires.order (search rules) c.in_ok-insert-in-Less.ensures.keys
