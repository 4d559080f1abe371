use Rattle.std.proofs.Common.{sym}
use Rattle.std.proofs.lemmas.Option.{get_or_from_slice_get, slice_get_within}
use Rattle.eql_model.proofs.MadeRows.{made_step}
use Rattle.requery.specs.Inner.Ways.{row_stretch}
use Rattle.requery.proofs.ends.stretches_below.Goals as goal

pub loop-item-preserved : goal.loop-item-preserved
loop-item-preserved c =
    made_step row_stretch c.args.down.now c.loop-item.item c.row.result.now c.loop-item.made.items c.push.new.self.items
    c.row_stretch.result (slice_get_within c.args.down.now c.loop-item.item c.row.result.now c.row.ensures)
    (sym (get_or_from_slice_get c.args.down.now c.loop-item.item c.row.result.now c.row.result.now c.row.ensures))
    c.loop-item.invariant c.row_stretch.ensures c.in_ok-push.ensures.items
