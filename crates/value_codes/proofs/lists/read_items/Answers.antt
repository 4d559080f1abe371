use Rattle.std.proofs.Common.{◌-◌, arith, refl, ap, ◌∙◌}
use Rattle.byte_forms.specs.Lists.{items_at}
use Rattle.value_codes.proofs.Loops.{put_front, read_first, read_more, read_done, read_fails}
use Rattle.value_codes.proofs.lists.read_items.Goals as goal

pub loop-place-init : goal.loop-place-init
loop-place-init g c =
    ap (λ items. put_front items (items_at g.T.Readable.form (c.args.count - 0) c.args.from.now)) c.new-items.ensures
    ∙ read_first g.T.Readable.form (items_at g.T.Readable.form c.args.count c.args.from.now) c.args.count c.args.from.now refl

pub loop-place-preserved : goal.loop-place-preserved
loop-place-preserved g c =
    read_more g.T.Readable.form (items_at g.T.Readable.form c.args.count c.args.from.now) c.loop-place.items c.push.new.self
    c.args.count c.loop-place._place c.loop-place.from c.read.new.from c.in-Ok.item c.loop-place.invariant (omega arith)
    c.in-Ok.ensures c.in_ok-push-in-Ok.ensures.ok

pub returns-in-Err : goal.returns-in-Err
returns-in-Err g c =
    read_fails g.T.Readable.form (items_at g.T.Readable.form c.args.count c.args.from.now) c.loop-place.items c.args.count
    c.loop-place._place c.loop-place.from c.read.new.from c.in-Err.fault c.loop-place.invariant (omega arith) c.in-Err.ensures

pub returns : goal.returns
returns g c =
    read_done g.T.Readable.form (items_at g.T.Readable.form c.args.count c.args.from.now) c.loop-place.items c.args.count
    c.loop-place._place c.loop-place.from c.loop-place.invariant (omega arith)
