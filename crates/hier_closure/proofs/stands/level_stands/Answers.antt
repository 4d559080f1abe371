use Rattle.std.proofs.Common.{ℕ, List, [], ◌∷◌, ◌++◌, ap, ◌∙◌, arith}
use Rattle.hier_closure.proofs.Places.{stands_none, level_more, level_done}
use Rattle.hier_closure.proofs.stands.level_stands.Goals as goal

pub loop-item-init : goal.loop-item-init
loop-item-init c =
    stands_none c.args.bundle.now _ (c.in_ok-push.ensures.ok ∙ ap (λ (ns : List ℕ). ns ++ 0 ∷ []) c.new-starts.ensures) c.new-stands.ensures

pub loop-item-preserved : goal.loop-item-preserved
loop-item-preserved c =
    level_more c.args.bundle.now c.as_slice-items.result.now c.loop-item.item-index c.item-item.result c.in_ok-short.short
    (record { starts = c.loop-item.starts; stands = c.loop-item.stands })
    (record { starts = c.push-in-loop-item.new.self; stands = c.put_children.new.stands })
    (omega arith) c.item-item.is c.loop-item.invariant c.in_ok-put_children.ensures
    (c.in_ok-short.ensures ∙ c.len.ensures) c.in_ok-push-2.ensures.ok

pub returns : goal.returns
returns c =
    level_done c.args.bundle.now c.args.level c.level.result.now c.as_slice-items.result.now c.loop-item.item-index
    (record { starts = c.loop-item.starts; stands = c.loop-item.stands })
    c.level.ensures.level c.as_slice-items.ensures (omega arith) c.loop-item.invariant
