use Rattle.std.proofs.Common.{◌++◌, arith}
use Rattle.byte_forms.specs.Lists.{items_code}
use Rattle.value_codes.proofs.Loops.{put_more, put_done}
use Rattle.value_codes.proofs.lists.put_items.Goals as goal

pub loop-item-preserved : goal.loop-item-preserved
loop-item-preserved g c =
    put_more g.T.Coded.form c.args.items.now c.loop-item.item-index c.item-item.result
    (c.args.out.now ++ items_code g.T.Coded.form c.args.items.now) c.loop-item.out c.put.new.out c.loop-item.invariant
    (omega arith) c.item-item.is c.in_ok-put.ensures

pub returns : goal.returns
returns g c =
    put_done g.T.Coded.form c.args.items.now c.loop-item.item-index
    (c.args.out.now ++ items_code g.T.Coded.form c.args.items.now) c.loop-item.out c.loop-item.invariant (omega arith)
