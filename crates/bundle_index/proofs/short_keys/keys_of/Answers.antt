use Rattle.std.proofs.Common.{[], ◌∷◌, arith}
use Rattle.std.proofs.lemmas.List.{length-append}
use Rattle.bundle_index.proofs.ShortLabels.{all_keyed, key_more}
use Rattle.bundle_index.proofs.short_keys.keys_of.Goals as goal

pub loop-place-preserved : goal.loop-place-preserved
loop-place-preserved c =
    let so = c.loop-place.invariant in
    rw c.in_ok-push.ensures.ok (record {
      count = omega (arith, length-append c.loop-place.keys (c.key_of.result ∷ []), so.count);
      each = key_more c.args.labels.now c.loop-place.keys c.loop-place.place c.key_of.result c.get.result.now so.each c.get.ensures
          c.key_of.ensures;
    })

pub returns-clause-keys : goal.returns-clause-keys
returns-clause-keys c = all_keyed c.args.labels.now c.loop-place.keys c.loop-place.place (omega arith) c.loop-place.invariant.each
