use Rattle.std.proofs.Common.{◌≡◌, ◌-◌, length, take, refl, ap, ◌∙◌, arith}
use Rattle.std.specs.List.{filter}
use Rattle.link_graph.specs.Inner.Blocks.{joined}
use Rattle.link_graph.specs.Inner.Ends.{has_end}
use Rattle.link_graph.proofs.Counted.{block_counted, filter_few}
use Rattle.link_graph.proofs.blocks.count_before.Goals as goal

pub overflow_add-total : goal.overflow_add-total
overflow_add-total c =
    let p = has_end c.args.end c.args.id.0 in
    let blocks = c.args.blocks.now in
    let block = c.block-item.result in
    let loop = c.loop-block in
    let step =
    block_counted p blocks loop.block-index block c.args.place loop.rest loop.total c.count_ends-total.result (loop.rest - length block)
    (length (filter p (take c.args.place (joined blocks)))) c.loop-block-test.true c.block-item.is (c.count_ends-total.ensures.count ∙ ap (λ ls. length (filter p (take loop.rest ls))) c.as_slice.ensures) refl loop.invariant in
    let few = filter_few p c.args.place (joined blocks) in
    let limit = c.requires in
    omega (arith, step, few, limit)

pub loop-block-preserved : goal.loop-block-preserved
loop-block-preserved c =
    let p = has_end c.args.end c.args.id.0 in
    let blocks = c.args.blocks.now in
    let block = c.block-item.result in
    let loop = c.loop-block in
    let less : c.saturating_sub-rest.result ≡ loop.rest - length block = c.saturating_sub-rest.ensures ∙ ap (λ len. loop.rest - len) c.len.ensures in
    block_counted p blocks loop.block-index block c.args.place loop.rest loop.total c.count_ends-total.result c.saturating_sub-rest.result
    (length (filter p (take c.args.place (joined blocks)))) c.loop-block-test.true c.block-item.is (c.count_ends-total.ensures.count ∙ ap (λ ls. length (filter p (take loop.rest ls))) c.as_slice.ensures) less loop.invariant
