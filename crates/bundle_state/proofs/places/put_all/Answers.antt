use Rattle.std.proofs.Common.{rules, ◌≡◌, ◌∙◌, ℕ, Option, arith}
use Rattle.bundle_state.specs.Inner.Placed.{level_in}
use Rattle.bundle_state.proofs.IdLevels.{put_step}
use Rattle.bundle_state.proofs.places.put_all.Goals as goal

then : (x y z : Option ℕ) → y ≡ z → x ≡ y → x ≡ z
then x y z rest first = first ∙ rest

pub loop-item-preserved : goal.loop-item-preserved
loop-item-preserved c = λ q.
    then _ _ _ (put_step (level_in c.args.map.now q) (level_in c.loop-item.map q) q c.args.level c.args.items.now c.loop-item.item-index c.item-item.result (omega arith) c.item-item.is (c.loop-item.invariant q))
    (search rules)
