use Rattle.link_graph.proofs.Joined.{found_here, found_behind}
use Rattle.std.proofs.Common.{arith, ◌≤◌, ◌<◌, length}
use Rattle.link_graph.proofs.blocks.link_at.Goals as goal

pub returns-then-rest-len : goal.returns-then-rest-len
returns-then-rest-len c =
    let inside : c.loop-block.rest < length c.block-item.result = (let is = c.len.ensures in let low = c.if-rest-len.true in omega arith) in
    found_here c.args.blocks.now c.loop-block.block-index c.block-item.result c.loop-block.rest c.args.place c.get.result.now c.loop-block-test.true
    c.block-item.is c.loop-block.invariant inside c.get.ensures

pub loop-block-preserved : goal.loop-block-preserved
loop-block-preserved c =
    let past : length c.block-item.result ≤ c.loop-block.rest = (let is = c.len.ensures in let high = c.if-rest-len.false in omega arith) in
    found_behind c.args.blocks.now c.loop-block.block-index c.block-item.result c.loop-block.rest c.args.place c.len-rest.result c.loop-block-test.true
    c.block-item.is c.loop-block.invariant past c.len-rest.ensures
